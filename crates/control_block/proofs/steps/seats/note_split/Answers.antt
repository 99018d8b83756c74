use Rattle.control_block.proofs.kept.Split.{allows_split}
use Rattle.control_block.proofs.steps.seats.note_split.Goals as goal

pub load-requires : goal.load-requires
load-requires g c =
    let r = c.requires in let table = c.args.table.now in let seat = c.args.seat.now in (
      r.table,
      r.word,
      record {
        allows = allows_split table.key table.table_id.slots seat.id 0 g.G.SplitArgs.allowance g.G.SplitArgs.handles g.G.SplitArgs.blocks
            seat.me r.rests r.may;
      },
    )
