use Rattle.control_block.proofs.kept.Shelf.{allows_shelf_look}
use Rattle.control_block.proofs.steps.shelf.look.Goals as goal

pub load-requires : goal.load-requires
load-requires g c =
    let r = c.requires in let table = c.args.table.now in let seat = c.args.seat.now in (
      r.table,
      r.place.1,
      record { allows = allows_shelf_look table.key table.table_id.slots seat.id c.args.place g.M.StepArgs.word seat.me r.rests r.place.0 r.word },
    )
