use Rattle.std.proofs.Common.{◌<◌, sym, subst}
use Rattle.control_block.proofs.kept.Look.{allows_count}
use Rattle.control_block.proofs.steps.count.Goals as goal

pub load-requires : goal.load-requires
load-requires g c =
    let r = c.requires in let e = c.block_word.ensures in let table = c.args.table.now in let seat = c.args.seat.now in (
      r.table,
      subst (λ x. x < table.table_id.words) (sym e) r.word.1,
      record {
        allows = allows_count table.key table.table_id.slots seat.id c.args.of.block.0 g.M.StepArgs.object c.block_word.result g.M.StepArgs.kind
            g.M.StepArgs.place
            seat.me r.rests r.holds e;
      },
    )
