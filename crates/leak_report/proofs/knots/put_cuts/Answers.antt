use Rattle.std.proofs.Common.{string_bytes}
use Rattle.leak_report.proofs.Prelude.{cut_lines, lines_on}
use Rattle.leak_report.proofs.knots.put_cuts.Goals as goal

pub loop-tie-preserved : goal.loop-tie-preserved
loop-tie-preserved c =
    lines_on (cut_lines c.args.found.now.cuts.items c.args.shared) c.args.ties.now c.loop-tie.tie-index _
    (string_bytes c.args.text.now) (string_bytes c.loop-tie.text) (string_bytes c.put_cut.new.text)
    c.loop-tie-test.true c.loop-tie.invariant c.in_ok-put_cut.ensures
