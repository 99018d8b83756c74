use Rattle.std.proofs.Common.{sym}
use Rattle.script_text.proofs.CellWords.{dot_cut, no_dot}
use Rattle.script_text.proofs.words.cell.split_at_dot.Goals as goal

pub returns-in_err-dot : goal.returns-in_err-dot
returns-in_err-dot c =
    rw c.from_residual.ensures (no_dot c.args.word.now (sym c.in_err-dot.ensures))

pub returns : goal.returns
returns c = dot_cut c.args.word.now c.in_ok-dot.dot (sym c.in_ok-dot.ensures)
