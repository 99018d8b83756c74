use Rattle.control_block.proofs.Prelude.{known, Owner}
use Rattle.control_block.proofs.calls.shares.share.Given as goal

abbrev pub ghosts-share : goal.ghosts-share
ghosts-share g a =
    record {
      kind = Owner;
      object = (known a.seat.now.me.0).latest a.of.block.0;
      place = a.of.place;
      wanted = a.wanted.place;
      block = a.of.block;
      word = 0;
    }
