use Rattle.std.proofs.Common.{None}
use Rattle.control_block.proofs.Prelude.{known}
use Rattle.control_block.proofs.calls.clears.clear.Given as goal

abbrev pub ghosts-clear : goal.ghosts-clear
ghosts-clear g a =
    record { kind = a.kind; object = (known a.seat.now.me.0).latest a.block.0; place = None; wanted = None; block = a.block; word = a.member }
