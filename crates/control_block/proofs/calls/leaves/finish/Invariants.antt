use Rattle.std.proofs.Common.{None}
use Rattle.control_block.proofs.Prelude.{known, Owner}
use Rattle.control_block.proofs.calls.leaves.finish.Given as goal

abbrev pub ghosts-finish : goal.ghosts-finish
ghosts-finish g a =
    record { kind = Owner; object = (known a.seat.now.me.0).latest a.block.0; place = None; wanted = None; block = a.block; word = 0 }
