use Rattle.std.proofs.Common.{string_bytes}
use Rattle.leak_report.proofs.Prelude.{holder_lines, lines_on}
use Rattle.leak_report.proofs.lines.put_holders.Goals as goal

pub loop-holding-preserved : goal.loop-holding-preserved
loop-holding-preserved c =
    lines_on (holder_lines c.args.shared) c.args.holdings.now c.loop-holding.holding-index _ (string_bytes c.args.text.now)
    (string_bytes c.loop-holding.text) (string_bytes c.put_holder.new.text)
    c.loop-holding-test.true c.loop-holding.invariant c.in_ok-put_holder.ensures
