use Rattle.control_block.proofs.kept.Take.{allows_load}
use Rattle.control_block.proofs.steps.cells.take.Goals as goal

pub compare_exchange-now-requires : goal.compare_exchange-now-requires
compare_exchange-now-requires g c =
    let r = c.requires in let table = c.args.table.now in let seat = c.args.seat.now in let x = r.seen in (
      r.table,
      r.word,
      record {
        allows = allows_load table.key table.table_id.slots seat.id c.args.word c.bits-found.result g.A.CellArgs.cell c.args.seen seat.me r.rests r.cell x.0
            c.bits-found.ensures x.1 x.2 r.room;
      },
    )
