use Rattle.std.proofs.Common.{◌≡◌, ℕ, ◌-◌, ◌≤◌, IfSome, refl, sym, ap, ◌∙◌, subst}
use Rattle.control_block.proofs.Prelude.{HoldingInBlock, IsCounted, known}
use Rattle.control_block.proofs.leavings.LetGo.{gone_rests, may_go, none_gone, none_owed}
use Rattle.control_block.proofs.leavings.LetGo.{some_gone}
use Rattle.control_block.proofs.steps.leaves.let_go.Goals as goal
use Rattle.control_word.specs.Limits.{cell_funds}

pub leave-requires-clause-count : goal.leave-requires-clause-count
leave-requires-clause-count g c =
    let id = c.args.table.now.table_id in
    subst (λ q. IfSome q (λ b. IsCounted c.args.kind b id × (b.0 ≤ id.slots))) (sym c.in-Some.ensures.owned) c.requires.count

pub leave-requires-clause-may : goal.leave-requires-clause-may
leave-requires-clause-may g c =
    let m = g.M.StepArgs in let r = c.requires in let me = c.args.seat.now.me in
    let t = subst (λ q. IfSome q (λ b. (m.block ≡ b) × (m.object ≡ (known me.0).latest b.0))) (sym c.in-Some.ensures.owned) r.meant.1 in (
      t.0,
      may_go c.args.kind c.args.out me c.in-Some.block m.object m.place _ r.owes (sym c.in-Some.ensures.owned) t.1 r.meant.0
          (c.saturating_sub-left.ensures ∙ ap (λ n. cell_funds - n) c.taken.ensures)
          (subst (λ q. IfSome q (λ b. HoldingInBlock me.0 c.args.kind m.object m.place b.0)) (sym c.in-Some.ensures.owned) r.holds),
    )

pub returns-in_default-clause-seat : goal.returns-in_default-clause-seat
returns-in_default-clause-seat g c =
    (refl, refl, none_owed c.args.kind c.args.out c.args.seat.now.me c.requires.owes (sym c.owned.ensures.owned ∙ c.in_default.is))

pub returns-in_default-clause-gone : goal.returns-in_default-clause-gone
returns-in_default-clause-gone g c =
    none_gone c.args.kind c.args.seat.now.me.0 c.args.out c.nothing.result (sym c.owned.ensures.owned ∙ c.in_default.is) c.nothing.ensures

pub returns-clause-seat : goal.returns-clause-seat
returns-clause-seat g c =
    let t = c.leave.ensures in
    (t.seat.0, t.seat.1, gone_rests c.args.seat.now.me.0 c.leave.new.seat.me _ t.event c.requires.owes.awake t.seat.2)

pub returns-clause-gone : goal.returns-clause-gone
returns-clause-gone g c =
    let m = g.M.StepArgs in let r = c.requires in let v = c.args.seat.now.me.0 in let t = c.leave.ensures in
    let q = subst (λ q. IfSome q (λ b. (m.block ≡ b) × (m.object ≡ (known v).latest b.0))) (sym c.in-Some.ensures.owned) r.meant.1 in
    some_gone c.args.kind v c.leave.new.seat.me.0 c.args.out c.in-Some.block m.object m.place c.leave.result (sym c.in-Some.ensures.owned) q.1 r.meant.0
    t.event t.kind t.value
