use Rattle.std.proofs.Common.{◌+◌, Some, None, sym, refl, ap, ◌∙◌, arith}
use Rattle.control_block.proofs.Prelude.{desk_now, Idle, on_latest, Owner, Read}
use Rattle.control_block.proofs.desks.DeskBags.{adds_of, holding_in, calm, field_low}
use Rattle.control_block.proofs.desks.Outcomes.{stays}
use Rattle.control_block.proofs.Passage.{plain}
use Rattle.control_block.proofs.desks.DeskSteps.{ending_same, as_many, came, quiet_desk}
use Rattle.control_block.proofs.desks.DeskSteps.{word_inside}
use Rattle.control_block.proofs.calls.reads.read.Goals as goal

pub read-requires-clause-holds : goal.read-requires-clause-holds
read-requires-clause-holds g c =
    holding_in c.desk.inside c.args.desk.now Owner (Some c.args.place) c.args.place.block.0 c.desk.invariant c.desk.view_is c.requires.holds

pub read-requires-clause-word : goal.read-requires-clause-word
read-requires-clause-word g c =
    let low = field_low c.desk.inside c.args.desk.now c.args.place c.desk.invariant c.desk.view_is c.requires.holds in
    let w = word_inside c.desk.inside c.domain.inside.table.shared.table_id Owner _ (Some c.args.place) c.args.place.block.0
    (3 + c.args.place.field) c.desk.invariant
    (ap (λ z. z.domain) c.desk.view_is ∙ (c.requires.domain.table ∙ sym (ap (λ z. z.id) c.domain.view_is)))
    (holding_in c.desk.inside c.args.desk.now Owner (Some c.args.place) c.args.place.block.0 c.desk.invariant c.desk.view_is c.requires.holds)
    (omega arith) in
    (w.0, low, w.1)

pub invariant_of-desk : goal.invariant_of-desk
invariant_of-desk g c =
    let d = c.desk.inside in let h = c.desk.invariant in let v = d.seat.me.0 in let w = c.read.new.seat.me.0 in let s = c.read.ensures in
    let e = Read (on_latest (desk_now d) Owner (Some c.args.place) c.args.place.block.0) c.read.result in let t = came v w Idle None e s.event in
    let size = as_many v w e t refl in
    quiet_desk d _ e h s.event s.seat.0 (s.seat.2 ∙ h.rests.none) (λ y x. refl) (λ y x. refl) refl refl (omega (arith, size, h.holding))
    (omega (arith, h.within))
    (h.ended ∙ sym (ending_same v w e t (plain (λ y x. refl) (λ y x. refl) (λ y f. refl))))

pub returns-clause-event : goal.returns-clause-event
returns-clause-event g c =
    adds_of c.desk.inside c.args.desk.now c.read.new.seat.me.0 _ _
    (λ z. Read (on_latest z Owner (Some c.args.place) c.args.place.block.0) c.read.result)
    c.desk.view_is c.read.ensures.seat.0 c.read.ensures.event

pub returns-clause-outcome : goal.returns-clause-outcome
returns-clause-outcome g c =
    stays c.desk.inside c.read.new.seat.me.0 _ c.desk.invariant c.read.ensures.event _ c.args.desk.now c.desk.view_is c.read.ensures.seat.0
    (calm (λ s n. refl) (λ s n. refl) (λ s f. refl)) (λ s n. refl) (λ s n. refl) (λ s n. refl)
