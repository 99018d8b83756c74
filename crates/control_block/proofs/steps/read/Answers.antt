use Rattle.std.proofs.Common.{◌+◌, ◌<◌, sym, ap, ◌∙◌, subst}
use Rattle.control_block.proofs.Prelude.{spot}
use Rattle.control_block.proofs.kept.Look.{allows_read}
use Rattle.control_block.proofs.steps.read.Goals as goal

pub load-requires : goal.load-requires
load-requires g c =
    let r = c.requires in let table = c.args.table.now in let seat = c.args.seat.now in let place = c.args.place in
    let e = c.block_word.ensures ∙ ap (λ x. spot place.block.0 (3 + x)) c.from-word.ensures in (
      r.table,
      subst (λ x. x < table.table_id.words) (sym e) r.word.2,
      record {
        allows = allows_read table.key table.table_id.slots seat.id c.block_word.result g.M.StepArgs.object place g.M.StepArgs.place seat.me r.rests
            r.place r.holds r.word.1 e;
      },
    )
