use Rattle.std.proofs.Common.{None, sym, refl, ap, ◌∙◌, arith}
use Rattle.control_block.proofs.Prelude.{Count, desk_now, Idle, on_latest}
use Rattle.control_block.proofs.desks.DeskBags.{adds_of, holding_in, calm}
use Rattle.control_block.proofs.desks.Outcomes.{stays}
use Rattle.control_block.proofs.Passage.{plain}
use Rattle.control_block.proofs.desks.DeskSteps.{ending_same, as_many, came, quiet_desk}
use Rattle.control_block.proofs.desks.DeskSteps.{word_inside}
use Rattle.control_block.proofs.calls.reads.count.Goals as goal

pub count-requires-clause-holds : goal.count-requires-clause-holds
count-requires-clause-holds g c =
    holding_in c.desk.inside c.args.desk.now c.args.of.kind c.args.of.place c.args.of.block.0 c.desk.invariant c.desk.view_is c.requires.holds

pub count-requires-clause-word : goal.count-requires-clause-word
count-requires-clause-word g c =
    word_inside c.desk.inside c.domain.inside.table.shared.table_id c.args.of.kind _ c.args.of.place c.args.of.block.0 0 c.desk.invariant
    (ap (λ z. z.domain) c.desk.view_is ∙ (c.requires.domain.table ∙ sym (ap (λ z. z.id) c.domain.view_is)))
    (holding_in c.desk.inside c.args.desk.now c.args.of.kind c.args.of.place c.args.of.block.0 c.desk.invariant c.desk.view_is c.requires.holds)
    (omega arith)

pub invariant_of-desk : goal.invariant_of-desk
invariant_of-desk g c =
    let d = c.desk.inside in let h = c.desk.invariant in let v = d.seat.me.0 in let w = c.count.new.seat.me.0 in let s = c.count.ensures in
    let e = Count (on_latest (desk_now d) c.args.of.kind c.args.of.place c.args.of.block.0) c.count.result in let t = came v w Idle None e s.event in
    let size = as_many v w e t refl in
    quiet_desk d _ e h s.event s.seat.0 (s.seat.2 ∙ h.rests.none) (λ y x. refl) (λ y x. refl) refl refl (omega (arith, size, h.holding))
    (omega (arith, h.within))
    (h.ended ∙ sym (ending_same v w e t (plain (λ y x. refl) (λ y x. refl) (λ y f. refl))))

pub returns-clause-event : goal.returns-clause-event
returns-clause-event g c =
    adds_of c.desk.inside c.args.desk.now c.count.new.seat.me.0 _ _
    (λ z. Count (on_latest z c.args.of.kind c.args.of.place c.args.of.block.0) c.count.result)
    c.desk.view_is c.count.ensures.seat.0 c.count.ensures.event

pub returns-clause-outcome : goal.returns-clause-outcome
returns-clause-outcome g c =
    stays c.desk.inside c.count.new.seat.me.0 _ c.desk.invariant c.count.ensures.event _ c.args.desk.now c.desk.view_is c.count.ensures.seat.0
    (calm (λ s n. refl) (λ s n. refl) (λ s f. refl)) (λ s n. refl) (λ s n. refl) (λ s n. refl)
