use Rattle.std.proofs.Common.{None}
use Rattle.control_block.proofs.Prelude.{known}
use Rattle.control_block.proofs.retries.loads.top_up.Given as goal

abbrev pub ghosts-refill : goal.ghosts-refill
ghosts-refill g a =
    record {
      kind = a.kind;
      object = (known a.seat.now.me.0).latest a.block.0;
      place = a.place;
      wanted = None;
      block = a.block;
      word = 0;
    }
