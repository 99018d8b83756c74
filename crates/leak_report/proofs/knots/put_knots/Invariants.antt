use Rattle.std.proofs.Common.{◌≡◌, ◌++◌, string_bytes}
use Rattle.leak_report.proofs.Prelude.{all_knots, ended}
use Rattle.leak_report.proofs.knots.put_knots.Given as goal

abbrev pub invariant-loop-before : goal.invariant-loop-before
invariant-loop-before l =
    string_bytes l.text ≡ string_bytes l.fn.text
    ++ ended (all_knots l.shared l.found.findings l.found.held.items l.found.blocks l.before)
