use Rattle.std.proofs.Common.{ℕ, ◌<◌, sym, subst}
use Rattle.control_block.proofs.Prelude.{Allows, IsTold, known, none, peeked, Ruled, step}
use Rattle.control_block.proofs.kept.Peek.{allows_peek}
use Rattle.control_block.proofs.steps.peek.Goals as goal

pub load-requires : goal.load-requires
load-requires g c =
    let r = c.requires in let table = c.args.table.now in let seat = c.args.seat.now in let b = c.args.block.0 in
    let e = c.block_word.ensures in (
      r.table,
      subst (λ x. x < table.table_id.words) (sym e) r.word.3,
      record {
        allows = subst (λ (j : ℕ). Allows (Ruled table.key) table.table_id.slots seat.id seat.me c.block_word.result (λ n. n)
            (peeked g.M.StepArgs.object j (step table.table_id.slots c.block_word.result 0 0 none) seat.me)) (sym r.word.2)
            (allows_peek table.key table.table_id.slots seat.id b g.M.StepArgs.object c.block_word.result c.args.word seat.me r.rests.awake r.near
            r.word.1 e);
      },
    )

pub returns-clause-told : goal.returns-clause-told
returns-clause-told g c =
    subst (λ (j : ℕ). IsTold j ((known c.args.seat.now.me.0).object g.M.StepArgs.object) c.load.result) c.requires.word.2 c.load.ensures.2.1
