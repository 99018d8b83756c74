use Rattle.std.proofs.Common.{◌-◌, None}
use Rattle.control_block.proofs.Prelude.{Owner, shelf_at}
use Rattle.control_block.proofs.desk.Desk.look_on_shelf.Given as goal

abbrev pub ghosts-look : goal.ghosts-look
ghosts-look g a =
    record {
      kind = Owner;
      object = 0;
      place = None;
      wanted = None;
      block = record { 0 = 0 };
      word = a.place - shelf_at a.seat.now.me.0.shape 0;
    }
