use Rattle.std.proofs.Common.{None}
use Rattle.control_block.proofs.Prelude.{known, Weak}
use Rattle.control_block.proofs.calls.locks.lock_once.Given as goal

abbrev pub ghosts-lock_once : goal.ghosts-lock_once
ghosts-lock_once g a =
    record {
      kind = Weak;
      object = (known a.seat.now.me.0).latest a.of.block.0;
      place = a.of.place;
      wanted = None;
      block = a.of.block;
      word = 0;
    }
