use Rattle.std.proofs.Common.{None}
use Rattle.control_block.proofs.Prelude.{known, Weak}
use Rattle.control_block.proofs.calls.locks.lock.Given as goal

abbrev pub ghosts-lock : goal.ghosts-lock
ghosts-lock g a =
    record {
      kind = Weak;
      object = (known a.seat.now.me.0).latest a.of.block.0;
      place = a.of.place;
      wanted = None;
      block = a.of.block;
      word = 0;
    }
