use Rattle.std.proofs.Common.{None}
use Rattle.control_block.proofs.Prelude.{known}
use Rattle.control_block.proofs.calls.leaves.leave.Given as goal

abbrev pub ghosts-leave : goal.ghosts-leave
ghosts-leave g a =
    record { kind = a.of.kind; object = (known a.seat.now.me.0).latest a.of.block.0; place = a.of.place; wanted = None; block = a.of.block; word = 0 }
