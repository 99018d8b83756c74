use Rattle.std.proofs.Common.{None}
use Rattle.control_block.proofs.Prelude.{Owner}
use Rattle.control_block.proofs.desk.Desk.shelve_last.Given as goal

abbrev pub ghosts-shelve : goal.ghosts-shelve
ghosts-shelve g a = record { kind = Owner; object = 0; place = None; wanted = None; block = a.block; word = 0 }
