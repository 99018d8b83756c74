use Rattle.std.proofs.Common.{sym}
use Rattle.text_lines.proofs.LineLemmas.{no_feed, first_cut}
use Rattle.text_lines.proofs.lines.split_line.Goals as goal

pub returns-in_err-end : goal.returns-in_err-end
returns-in_err-end c =
    rw c.from_residual.ensures (no_feed c.args.bytes.now (sym c.in_err-end.ensures))

pub returns : goal.returns
returns c = first_cut c.args.bytes.now c.in_ok-end.end (sym c.in_ok-end.ensures)
