use Rattle.std.proofs.Common.{◌<◌, sym, subst}
use Rattle.control_block.proofs.kept.WeakShare.{allows_weak_share}
use Rattle.control_block.proofs.steps.share_weak.Goals as goal

pub fetch_add-requires : goal.fetch_add-requires
fetch_add-requires g c =
    let r = c.requires in let e = c.block_word.ensures in let table = c.args.table.now in let seat = c.args.seat.now in (
      r.table,
      subst (λ x. x < table.table_id.words) (sym e) r.word.1,
      record {
        allows = allows_weak_share table.key table.table_id.slots seat.id c.args.block.0 g.M.StepArgs.object c.block_word.result g.M.StepArgs.wanted
            seat.me r.rests r.may r.room e;
      },
    )
