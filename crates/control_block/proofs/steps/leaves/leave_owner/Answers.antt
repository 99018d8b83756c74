use Rattle.std.proofs.Common.{◌≡◌, ℕ, ◌+◌, ◌-◌, ◌*◌, ◌%◌, ◌^◌, ◌<◌, true, ◌∷◌, Some, None, sym, ap}
use Rattle.std.proofs.Common.{◌∙◌, subst}
use Rattle.control_block.proofs.Prelude.{Allows, At, Block, Ends, Idle, Leave, left, none}
use Rattle.control_block.proofs.Prelude.{opening_of, Owner, owner, Ruled, seeing, step, value}
use Rattle.control_block.proofs.words.Seats.{added_as, first_slot}
use Rattle.control_block.proofs.kept.Leave.{allows_leave, allows_give_back}
use Rattle.control_block.proofs.kept.MayLeave.{may_awake, may_none}
use Rattle.control_block.proofs.steps.leaves.leave_owner.Goals as goal

pub fetch_sub-found-requires : goal.fetch_sub-found-requires
fetch_sub-found-requires g c =
    let r = c.requires in let i = c.block_word-word.result in let e = c.block_word-word.ensures in let table = c.args.table.now in
    let seat = c.args.seat.now in let m = g.M.StepArgs in let a = c.from.result * 4294967296 + 1 in
    let amount : a ≡ c.args.funds * 4294967296 + 1 = ap (λ (n : ℕ). n * 4294967296 + 1) c.from.ensures in (
      r.table,
      subst (λ x. x < table.table_id.words) (sym e) r.word.2,
      record {
        allows = subst (λ (b : Block). Allows (Ruled table.key) table.table_id.slots seat.id seat.me i
            (λ n. (n + (2 ^ 64 - a)) % 2 ^ 64) (left b m.object m.place (step table.table_id.slots i a 0 none) seat.me))
            (sym r.may.0) (allows_leave table.key table.table_id.slots seat.id m.object i a c.args.funds c.args.block m.place seat.me
            r.word.0 r.may.1 e amount);
      },
    )

pub remember-value-requires-clause-hand : goal.remember-value-requires-clause-hand
remember-value-requires-clause-hand g c =
    let r = c.requires in let l = c.fetch_sub-found.ensures.2.1 c.if-found-all.false in
    let none = may_none c.args.seat.now.me Owner g.M.StepArgs.object g.M.StepArgs.place c.args.block.0 c.args.funds r.may.1 in
    (r.word.0, l.1.0, l.1.2 ∙ (λ j. ((r.may.0 j).0 - 1, Some l.1.0) ∷ none j))

pub load-requires : goal.load-requires
load-requires g c =
    let r = c.requires in let i = c.block_word-word.result in let table = c.args.table.now in let m = g.M.StepArgs in
    let l = c.fetch_sub-found.ensures.2.1 c.if-found-all.false in
    let awake = may_awake c.args.seat.now.me Owner m.object m.place c.args.block.0 c.args.funds r.may.1 in
    let x = c.remember-value.ensures in let me = c.remember-value.new.seat.me in
    let none = may_none c.args.seat.now.me Owner m.object m.place c.args.block.0 c.args.funds r.may.1 in
    let carried = l.1.2 ∙ (λ j. ((r.may.0 j).0 - 1, Some l.1.0) ∷ none j) in
    let ends = subst (λ (y : At g.row.V.Denot × Block). Ends y.0.0 m.object y.1.0) (λ j. (sym x.same j, r.may.0 j)) l.1.3 in
    let now = ap (λ (y : At g.row.V.Denot). y.0) x.same in let shape = ap (λ w. w.shape) (now ∙ l.0.now) in let seen = ap (λ w. w.view.seen) now in
    let val = (λ j. value (opening_of (shape j)) (seen j) m.object) ∙ l.1.1 in (
      x.seat.0 ∙ (c.fetch_sub-found.ensures.0 ∙ r.table),
      subst (λ y. y < table.table_id.words) (sym c.block_word-word.ensures) r.word.2,
      record {
        allows = allows_give_back table.key table.table_id.slots c.remember-value.new.seat.id i m.object c.args.block l.1.0 me
            (ap (λ m. m.0.view.spent) x.same ∙ (ap (λ w. w.view.spent) l.0.now ∙ awake))
            (ap (λ m. m.0.view.pending) x.same ∙ ap (λ w. w.view.pending) l.0.now)
            (ap (λ m. m.0.hand) x.same ∙ (ap (λ w. w.hand) l.0.now ∙ ap Some r.may.0))
            (ap (λ m. m.1) x.same ∙ carried) (r.word.0, r.word.1) ends val;
      },
    )

pub returns-clause-event : goal.returns-clause-event
returns-clause-event g c =
    let v = c.args.seat.now.me.0 in let l = c.fetch_sub-found.ensures.2.1 c.if-found-all.false in let x = c.remember-value.ensures in
    added_as v c.fetch_sub-found.new.seat.me.0 c.load.new.seat.me.0 Idle Idle (Some g.M.StepArgs.block) None (Leave
    (owner g.M.StepArgs.object g.M.StepArgs.place) true) l.0
    (c.load.ensures.2.0 ∙ ap (λ m. seeing m.0 Idle None m.0.view.seen) x.same)

pub returns-clause-value : goal.returns-clause-value
returns-clause-value g c =
    let v = c.args.seat.now.me.0 in let l = c.fetch_sub-found.ensures.2.1 c.if-found-all.false in let x = c.remember-value.ensures in
    let seen = ap (λ w. w.view.seen) (c.load.ensures.2.0 ∙ ap (λ m. seeing m.0 Idle None m.0.view.seen) x.same) in
    ap (λ h. value (opening_of v.shape) h g.M.StepArgs.object) seen
    ∙ (l.1.1 ∙ ap first_slot (sym l.1.2 ∙ x.value))
