use Rattle.std.proofs.Common.{string_bytes}
use Rattle.leak_report.proofs.Prelude.{abstraction, node_lines, state_in}
use Rattle.leak_report.proofs.ReportLemmas.{numbers_then}
use Rattle.leak_report.proofs.graph.put_blocks.Goals as goal

pub loop-before-preserved : goal.loop-before-preserved
loop-before-preserved c =
    let found = c.args.found.now in
    numbers_then (node_lines (state_in (abstraction c.args.world.now)) found.findings found.held.items)
    c.loop-before.before (string_bytes c.args.text.now) (string_bytes c.loop-before.text) (string_bytes c.put_block.new.text) c.loop-before.invariant
    c.in_ok-put_block.ensures
