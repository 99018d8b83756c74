use Rattle.std.proofs.Common.{◌<◌, sym, subst}
use Rattle.control_block.proofs.kept.Share.{allows_share}
use Rattle.control_block.proofs.steps.share.Goals as goal

pub fetch_add-requires : goal.fetch_add-requires
fetch_add-requires g c =
    let r = c.requires in let e = c.block_word.ensures in let table = c.args.table.now in let seat = c.args.seat.now in (
      r.table,
      subst (λ x. x < table.table_id.words) (sym e) r.word.1,
      record {
        allows = allows_share table.key table.table_id.slots seat.id c.args.of.block.0 g.M.StepArgs.object c.block_word.result g.M.StepArgs.place
            g.M.StepArgs.wanted
            seat.me r.rests r.holds r.wanted r.room e;
      },
    )
