use Rattle.std.proofs.Common.{ℕ, [], ◌∷◌, List, ap, subst, sym, ◌∙◌}
use Rattle.std.specs.Prelude.{All}
use Rattle.std.proofs.lemmas.List.Elements.{All-append, All-cons, All-nil}
use Rattle.run_picture.specs.declared.picture.Change.{Change}
use Rattle.step_table.specs.GhostStates.{model_state}
use Rattle.step_core.specs.Totals.{census_of}
use Rattle.script_picture.specs.Acts.{TellsCounts}
use Rattle.script_picture.proofs.recording.add_change.Goals as goal

pub returns-in_ok-push : goal.returns-in_ok-push
returns-in_ok-push c =
    let told = TellsCounts (model_state c.args.world.now.ghost_state) in
    let change : Change = record { block = c.from-block.result; counts = c.counts-counts.result } in
    subst (λ (l : List Change). All told l) (sym c.in_ok-push.ensures.items)
    (All-append told c.args.changes.now.items (change ∷ []) c.requires.told
    (All-cons told change []
    (c.counts-counts.ensures ∙ ap (λ (n : ℕ). census_of (model_state c.args.world.now.ghost_state) n) c.numbered.ensures) (All-nil told)))
