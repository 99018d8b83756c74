use Rattle.std.proofs.Common.{ℕ, ◌<◌, slice_set, sym, ◌∙◌, subst, arith}
use Rattle.control_block.proofs.Prelude.{Allows, Block, IsPrepared, none, Ruled, step, wrote}
use Rattle.control_block.proofs.words.Seats.{has_hand, makes, set_twice, stays_awake, told_written}
use Rattle.control_block.proofs.kept.Make.{allows_look, allows_write}
use Rattle.control_block.proofs.steps.makes.write.Goals as goal

pub load-requires : goal.load-requires
load-requires g c =
    let r = c.requires in let q = r.prepared in let i = c.block_word-place.result in let e = c.block_word-place.ensures in
    let table = c.args.table.now in
    let seat = c.args.seat.now in let b = c.args.block in let me = seat.me in (
      r.table,
      subst (λ x. x < table.table_id.words) (sym e) (omega (arith, r.word)),
      record {
        allows = subst (λ (y : Block × ℕ). Allows (Ruled table.key) table.table_id.slots seat.id me i
            (λ n. n) (wrote y.0 y.1 (step table.table_id.slots i 0 0 none) me))
            (λ k. (sym r.meant.0 k, sym r.meant.1 k))
            (allows_look table.key table.table_id.slots seat.id i c.args.word b me (stays_awake q.0 b me q.1 q.2 q.4 q.3) q.1
            (makes q.0 b me q.1 q.2 q.4) (has_hand q.0 b me q.1 q.2 q.4) q.4.sized r.word.2 e);
      },
    )

pub store-requires : goal.store-requires
store-requires g c =
    let r = c.requires in let q = r.prepared in let i = c.block_word-place.result in let e = c.block_word-place.ensures in
    let table = c.args.table.now in
    let b = c.args.block in let l = slice_set q.1 c.args.word c.load.result in let seat = c.load.new.seat in let n : ℕ = c.args.value in
    let t = told_written q.0 b c.args.seat.now.me q.1 q.2 q.4
    (step table.table_id.slots i 0 0 none) seat.me g.M.StepArgs.block g.M.StepArgs.word c.args.word c.load.result r.meant.0 r.meant.1
    c.load.ensures.2 in (
      c.load.ensures.0 ∙ r.table,
      subst (λ x. x < table.table_id.words) (sym e) (omega (arith, r.word)),
      record {
        allows = subst (λ (y : Block × ℕ). Allows (Ruled table.key) table.table_id.slots seat.id seat.me i (λ _. n)
            (λ _. wrote y.0 y.1 (step table.table_id.slots i n 0 none) seat.me n))
            (λ k. (sym r.meant.0 k, sym r.meant.1 k))
            (allows_write table.key table.table_id.slots seat.id i c.args.word b seat.me (stays_awake q.0 b seat.me l q.2 t q.3) l
            (makes q.0 b seat.me l q.2 t) (has_hand q.0 b seat.me l q.2 t) t.sized r.word.2 e n);
      },
    )

pub returns-then-load-value-clause-wrote : goal.returns-then-load-value-clause-wrote
returns-then-load-value-clause-wrote g c =
    λ v l x awake t.
    let b = c.args.block in let m = c.requires.meant in let i = c.block_word-place.result in let slots = c.args.table.now.table_id.slots in
    let s = told_written v b c.args.seat.now.me l x t
    (step slots i 0 0 none) c.load.new.seat.me g.M.StepArgs.block g.M.StepArgs.word c.args.word c.load.result m.0 m.1 c.load.ensures.2 in
    subst (λ y. IsPrepared v b c.store.new.seat.me y x) (set_twice l c.args.word c.load.result c.args.value)
    (told_written v b c.load.new.seat.me (slice_set l c.args.word c.load.result) x s
    (step slots i c.args.value 0 none) c.store.new.seat.me g.M.StepArgs.block g.M.StepArgs.word c.args.word c.args.value m.0 m.1 c.store.ensures.2)

pub returns-else-load-value-clause-wrote : goal.returns-else-load-value-clause-wrote
returns-else-load-value-clause-wrote g c =
    λ v l x awake t.
    let b = c.args.block in let m = c.requires.meant in let i = c.block_word-place.result in let slots = c.args.table.now.table_id.slots in
    subst (λ y. IsPrepared v b c.load.new.seat.me (slice_set l c.args.word y) x) c.if-load-value.false
    (told_written v b c.args.seat.now.me l x t
    (step slots i 0 0 none) c.load.new.seat.me g.M.StepArgs.block g.M.StepArgs.word c.args.word c.load.result m.0 m.1 c.load.ensures.2)
