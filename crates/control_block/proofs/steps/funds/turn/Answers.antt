use Rattle.std.proofs.Common.{◌<◌, sym, subst}
use Rattle.control_block.proofs.kept.Turn.{allows_turn}
use Rattle.control_block.proofs.steps.funds.turn.Goals as goal

pub fetch_add-requires : goal.fetch_add-requires
fetch_add-requires g c =
    let r = c.requires in let e = c.count_word.ensures in let table = c.args.table.now in let seat = c.args.seat.now in let q = r.owes in (
      r.table,
      subst (λ x. x < table.table_id.words) (sym e) r.word.1,
      record { allows = allows_turn table.key table.table_id.slots seat.id c.args.block.0 q.0 c.count_word.result c.args.kind q.1 seat.me q.2 e },
    )
