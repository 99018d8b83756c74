use Rattle.std.proofs.Common.{string_bytes}
use Rattle.leak_report.proofs.Prelude.{knot_lines}
use Rattle.leak_report.proofs.ReportLemmas.{numbers_then}
use Rattle.leak_report.proofs.knots.put_knots.Goals as goal

pub loop-before-preserved : goal.loop-before-preserved
loop-before-preserved c =
    let found = c.args.found.now in
    numbers_then (knot_lines c.args.shared found.findings found.held.items found.blocks)
    c.loop-before.before (string_bytes c.args.text.now) (string_bytes c.loop-before.text)
    (string_bytes c.put_knot.new.text) c.loop-before.invariant c.in_ok-put_knot.ensures
