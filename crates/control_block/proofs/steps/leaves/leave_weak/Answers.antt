use Rattle.std.proofs.Common.{◌≡◌, ℕ, ◌+◌, ◌*◌, ◌<◌, sym, ap, subst}
use Rattle.control_block.proofs.kept.WeakLeave.{allows_weak_leave}
use Rattle.control_block.proofs.steps.leaves.leave_weak.Goals as goal

pub fetch_sub-requires : goal.fetch_sub-requires
fetch_sub-requires g c =
    let r = c.requires in let e = c.block_word.ensures in let table = c.args.table.now in let seat = c.args.seat.now in let m = g.M.StepArgs in
    let a = c.from.result * 4294967296 + 1 in
    let amount : a ≡ c.args.funds * 4294967296 + 1 = ap (λ (n : ℕ). n * 4294967296 + 1) c.from.ensures in (
      r.table,
      subst (λ x. x < table.table_id.words) (sym e) r.word.1,
      record {
        allows = allows_weak_leave table.key table.table_id.slots seat.id c.args.block.0 m.object c.block_word.result a c.args.funds m.place seat.me
            r.word.0 r.may e amount;
      },
    )
