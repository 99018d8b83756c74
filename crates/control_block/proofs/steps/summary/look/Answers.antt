use Rattle.control_block.proofs.kept.Summary.{allows_summary_look}
use Rattle.control_block.proofs.steps.summary.look.Goals as goal

pub load-requires : goal.load-requires
load-requires g c =
    let r = c.requires in let table = c.args.table.now in let seat = c.args.seat.now in (
      r.table,
      r.place,
      record { allows = allows_summary_look table.key table.table_id.slots seat.id c.args.place seat.me },
    )
