use Rattle.std.proofs.Common.{None}
use Rattle.control_block.proofs.Prelude.{known}
use Rattle.control_block.proofs.calls.reads.count.Given as goal

abbrev pub ghosts-count : goal.ghosts-count
ghosts-count g a =
    record {
      kind = a.of.kind;
      object = (known a.seat.now.me.0).latest a.of.block.0;
      place = a.of.place;
      wanted = None;
      block = record { 0 = 0 };
      word = 0;
    }
