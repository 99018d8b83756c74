use Rattle.std.proofs.Common.{◌+◌, ◌<◌, sym, ap, ◌∙◌, subst}
use Rattle.control_block.proofs.Prelude.{spot}
use Rattle.control_block.proofs.kept.Clear.{allows_look_clear}
use Rattle.control_block.proofs.steps.clears.is_empty.Goals as goal
use Rattle.control_block.specs.Rule.{members_of}

pub load-requires : goal.load-requires
load-requires g c =
    let r = c.requires in let e = c.block_word.ensures in let table = c.args.table.now in let seat = c.args.seat.now in (
      r.table,
      subst (λ x. x < table.table_id.words) (sym e) r.word.3,
      record {
        allows = allows_look_clear table.key table.table_id.slots seat.id c.args.block.0 g.M.StepArgs.object g.M.StepArgs.word c.block_word.result seat.me
            r.rests r.ends
            (subst (λ x. x < members_of c.args.seat.now.me.0.shape) (sym r.word.2) r.used) (e ∙ ap (λ x. spot c.args.block.0 (7 + x)) (sym r.word.2)) r.room;
      },
    )
