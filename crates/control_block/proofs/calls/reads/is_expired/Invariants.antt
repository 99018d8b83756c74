use Rattle.std.proofs.Common.{None}
use Rattle.control_block.proofs.Prelude.{known, Weak}
use Rattle.control_block.proofs.calls.reads.is_expired.Given as goal

abbrev pub ghosts-is_expired : goal.ghosts-is_expired
ghosts-is_expired g a =
    record {
      kind = Weak;
      object = (known a.seat.now.me.0).latest a.of.block.0;
      place = a.of.place;
      wanted = None;
      block = record { 0 = 0 };
      word = 0;
    }
