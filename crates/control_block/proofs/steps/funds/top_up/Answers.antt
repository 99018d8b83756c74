use Rattle.std.proofs.Common.{◌<◌, ◌≤◌, ◌-◌, sym, subst}
use Rattle.control_block.proofs.Prelude.{Owes, owing}
use Rattle.control_block.proofs.kept.TopUp.{allows_top_up}
use Rattle.control_block.proofs.steps.funds.top_up.Goals as goal
use Rattle.control_word.specs.Limits.{cell_funds}

pub fetch_add-requires : goal.fetch_add-requires
fetch_add-requires g c =
    let r = c.requires in let e = c.count_word.ensures in let table = c.args.table.now in let seat = c.args.seat.now in let q = r.owes in
    let k = c.args.kind in let b = c.args.block.0 in (
      r.table,
      subst (λ x. x < table.table_id.words) (sym e) r.word.1,
      record {
        allows = allows_top_up table.key table.table_id.slots seat.id b q.0 c.count_word.result c.from.result k q.1 seat.me
            (subst (λ x. x ≤ cell_funds) (sym c.from.ensures) r.few)
            (subst (λ f. Owes (owing k q.0 q.1 b (cell_funds - f) 0) seat.me) (sym c.from.ensures) q.2) e;
      },
    )
