use Rattle.control_block.proofs.Prelude.{in_history, known}
use Rattle.control_block.proofs.desk.Desk.cut_off.Given as goal

abbrev pub ghosts-part : goal.ghosts-part
ghosts-part g a = record { allowance = a.allowance; handles = in_history (known a.seat.now.me.0) (g.T.Lent.handles a.handles.now); blocks = a.blocks.now }
