use Rattle.std.proofs.Common.{None}
use Rattle.control_word.specs.State.{kind_of_member}
use Rattle.control_block.proofs.Prelude.{known}
use Rattle.control_block.proofs.calls.clears.clear_empty.Given as goal

abbrev pub ghosts-is_empty : goal.ghosts-is_empty
ghosts-is_empty g a =
    record {
      kind = kind_of_member a.seat.now.me.0.shape.owners a.member;
      object = (known a.seat.now.me.0).latest a.block.0;
      place = None;
      wanted = None;
      block = a.block;
      word = a.member;
    }
