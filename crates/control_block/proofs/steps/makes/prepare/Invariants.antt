use Rattle.std.proofs.Common.{None}
use Rattle.control_block.proofs.Prelude.{Owner}
use Rattle.control_block.proofs.steps.makes.prepare.Given as goal

abbrev pub ghosts-begin : goal.ghosts-begin
ghosts-begin g a = record { kind = Owner; object = 0; place = None; wanted = None; block = a.block; word = 0 }

abbrev pub ghosts-write : goal.ghosts-write
ghosts-write g a = record { kind = Owner; object = 0; place = None; wanted = None; block = a.block; word = a.word }
