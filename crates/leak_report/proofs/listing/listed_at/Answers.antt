use Rattle.std.proofs.Common.{ℕ, List, ◌++◌, string_bytes, refl, sym, ap, ◌∙◌}
use Rattle.leak_report.proofs.Prelude.{abstraction, ended, ended_in, listing, made_in, state_in}
use Rattle.leak_report.proofs.ReportLemmas.{all_then, found_at, marks_kept}
use Rattle.leak_report.proofs.listing.listed_at.Goals as goal

pub leaks-leaks-requires-clause-marks : goal.leaks-leaks-requires-clause-marks
leaks-leaks-requires-clause-marks c =
    let u = abstraction c.args.end.now.world in
    let found = c.args.found.now in
    marks_kept u found.findings (found_at u found.findings found.blocks found.held.items c.requires.blocks c.requires.held c.requires.found)

pub returns : goal.returns
returns c =
    let u = abstraction c.args.end.now.world in
    let found = c.args.found.now in
    let f = found.findings in record {
      findings = f;
      found = found_at u f found.blocks found.held.items c.requires.blocks c.requires.held c.requires.found;
      counted = c.requires.counted;
      says =
          all_then u f found.held.items 128 c.args.end.now.blocks found.blocks (made_in u.history) (ended_in u.history)
          (string_bytes c.put_listing.new.text) (string_bytes c.put_knots.new.text) (string_bytes c.put_sums.new.text)
          (sym c.args.end.now.shared) c.args.end.now.all c.requires.blocks refl refl c.requires.held
          (c.in_ok-put_listing.ensures
          ∙ ap (λ (t : List ℕ). t ++ ended (listing 128 found.held.items f.kept.items c.args.end.now.blocks (state_in u)))
          c.new-text.ensures.bytes) c.in_ok-put_knots.ensures c.in_ok-put_sums.ensures;
      leaks_is = c.leaks-leaks.ensures;
    }
