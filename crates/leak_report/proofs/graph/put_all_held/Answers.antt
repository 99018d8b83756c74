use Rattle.std.proofs.Common.{string_bytes}
use Rattle.leak_report.proofs.Prelude.{edge_lines, lines_on}
use Rattle.leak_report.proofs.graph.put_all_held.Goals as goal

pub loop-held-preserved : goal.loop-held-preserved
loop-held-preserved c =
    lines_on (edge_lines c.args.shared c.args.found.now) c.args.holdings.now
    c.loop-held.held-index _ (string_bytes c.args.text.now) (string_bytes c.loop-held.text) (string_bytes c.put_held.new.text)
    c.loop-held-test.true c.loop-held.invariant c.in_ok-put_held.ensures
