use Rattle.std.proofs.Common.{None}
use Rattle.control_block.proofs.Prelude.{known, Weak}
use Rattle.control_block.proofs.calls.shares.share_weak.Given as goal

abbrev pub ghosts-share_weak : goal.ghosts-share_weak
ghosts-share_weak g a =
    record { kind = Weak; object = (known a.seat.now.me.0).latest a.block.0; place = None; wanted = a.wanted.place; block = a.block; word = 0 }
