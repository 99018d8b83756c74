use Rattle.std.proofs.Common.{ℕ, [], ◌∷◌, ◌++◌, string_bytes, ap, ◌∙◌}
use Rattle.leak_report.proofs.Prelude.{ended, made_in, totals_text}
use Rattle.leak_report.proofs.listing.put_sums.Goals as goal

pub returns : goal.returns
returns c =
    let old = string_bytes c.args.text.now in
    let made = made_in c.args.world.now.ghost_state.history in
    c.in_ok-put_totals.ensures
    ∙ ap (λ (n : ℕ). old ++ ended (totals_text n c.from-2.result ∷ [])) (c.from.ensures ∙ c.made.ensures)
    ∙ ap (λ (n : ℕ). old ++ ended (totals_text made n ∷ [])) (c.from-2.ensures ∙ c.ended.ensures)
