use Rattle.std.proofs.Common.{None}
use Rattle.control_block.proofs.Prelude.{Owner}
use Rattle.control_block.proofs.desk.Desk.unshelve_block.Given as goal

abbrev pub ghosts-unshelve : goal.ghosts-unshelve
ghosts-unshelve g a = record { kind = Owner; object = 0; place = None; wanted = None; block = a.block; word = 0 }
