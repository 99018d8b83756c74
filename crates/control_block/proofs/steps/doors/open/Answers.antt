use Rattle.std.proofs.Common.{◌+◌, ◌-◌, ◌%◌, ◌^◌, ◌<◌, Some, None, sym, ap, ◌∙◌, subst}
use Rattle.control_block.proofs.Prelude.{Added, Allows, Block, Idle, none, opened, owner, Ruled}
use Rattle.control_block.proofs.Prelude.{step, Visit, Visiting}
use Rattle.control_block.proofs.words.Seats.{moved_added}
use Rattle.control_block.proofs.desks.Visiting.{same_first, same_found}
use Rattle.control_block.proofs.kept.Door.{allows_open}
use Rattle.control_block.proofs.steps.doors.open.Goals as goal

pub fetch_sub-requires : goal.fetch_sub-requires
fetch_sub-requires g c =
    let r = c.requires in let i = c.block_word.result in let e = c.block_word.ensures in let table = c.args.table.now in let seat = c.args.seat.now in
    let t = r.visiting.4 in let me = seat.me in let o = g.M.StepArgs.object in let p = g.M.StepArgs.place in (
      r.table,
      subst (λ y. y < table.table_id.words) (sym e) r.word.2,
      record {
        allows = subst (λ (b : Block). Allows (Ruled table.key) table.table_id.slots seat.id me i (λ n. (n + (2 ^ 64 - 4)) % 2 ^ 64)
            (opened b o p (step table.table_id.slots i 4 0 none) me)) (sym r.word.1)
            (allows_open table.key table.table_id.slots seat.id o i c.args.block p r.visiting.1 r.visiting.2 me
            (ap (λ w. w.view.spent) t.moved.now ∙ r.visiting.3)
            (ap (λ w. w.view.pending) t.moved.now ∙ ap (λ y. Visiting o p y r.visiting.1) (sym e))
            (ap (λ w. w.hand) t.moved.now) t.carried r.word.0 e);
      },
    )

pub returns-clause-event : goal.returns-clause-event
returns-clause-event g c = λ v was becomes t.
    let n = c.fetch_sub.ensures.2 in let o = g.M.StepArgs.object in let p = g.M.StepArgs.place in let b = c.args.block in
    let me = c.args.seat.now.me in
    let first = same_found me.0.view.pending Idle _ _ _ _ _ _ n.0 was n.2 (ap (λ w. w.view.pending) t.moved.now) in
    let last = same_first me.1 _ _ n.1 becomes n.3 t.carried in
    moved_added v me.0 c.fetch_sub.new.seat.me.0 _ Idle (Some b) None (Visit (owner o p) was becomes) t.moved
    (subst (λ y. Added me.0 Idle None (Visit (owner o p) was y) c.fetch_sub.new.seat.me.0) last
    (subst (λ y. Added me.0 Idle None (Visit (owner o p) y n.1) c.fetch_sub.new.seat.me.0) first n.4))

pub returns-clause-seat : goal.returns-clause-seat
returns-clause-seat g c = let n = c.fetch_sub.ensures in (n.0, n.1, n.2.5)
