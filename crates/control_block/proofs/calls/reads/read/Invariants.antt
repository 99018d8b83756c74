use Rattle.std.proofs.Common.{Some, None}
use Rattle.control_block.proofs.Prelude.{known, Owner}
use Rattle.control_block.proofs.calls.reads.read.Given as goal

abbrev pub ghosts-read : goal.ghosts-read
ghosts-read g a =
    record {
      kind = Owner;
      object = (known a.seat.now.me.0).latest a.place.block.0;
      place = Some a.place;
      wanted = None;
      block = record { 0 = 0 };
      word = 0;
    }
