use Rattle.std.proofs.Common.{string_bytes}
use Rattle.leak_report.proofs.Prelude.{abstraction, left_lines, state_in}
use Rattle.leak_report.proofs.ReportLemmas.{numbers_then}
use Rattle.leak_report.proofs.listing.put_listing.Goals as goal

pub loop-before-preserved : goal.loop-before-preserved
loop-before-preserved c =
    let found = c.args.found.now in
    numbers_then (left_lines c.args.shared found.held.items found.findings.kept.items (state_in (abstraction c.args.world.now)))
    c.loop-before.before (string_bytes c.args.text.now) (string_bytes c.loop-before.text) (string_bytes c.put_left.new.text) c.loop-before.invariant
    c.in_ok-put_left.ensures
