use Rattle.std.proofs.Common.{◌≡◌, Bool, true, false, ◌∷◌, Some, None, sym, refl, ap, ◌∙◌, subst, arith}
use Rattle.control_block.proofs.Prelude.{Added, bag_of, desk_now, handle, Idle, Lock, NumberedHandle, on_latest}
use Rattle.control_block.proofs.Prelude.{Owner, SeatView, Weak}
use Rattle.control_block.proofs.desks.DeskBags.{not_full, bag_gets, bag_stays, block_still}
use Rattle.control_block.proofs.desks.DeskBags.{holding_in, calm, keeps_quietly}
use Rattle.control_block.proofs.Passage.{plain}
use Rattle.control_block.proofs.desks.DeskSteps.{ending_same, as_many, came, one_more, quiet_desk}
use Rattle.control_block.proofs.desks.DeskSteps.{word_inside}
use Rattle.control_block.proofs.desks.DeskLocks.{none_after}
use Rattle.control_block.proofs.calls.locks.lock_once.Goals as goal
use Rattle.control_word.specs.HandleWords.{HandleNow}
use Rattle.control_block.specs.Handles.{IsProper}

told : {V : Type 0} {v w : SeatView V} {h : NumberedHandle} {a b : Bool} → a ≡ b → Added v Idle None (Lock h a) w → Added v Idle None (Lock h b) w
told {v = v} {w = w} {h = h} e t = subst (λ (x : Bool). Added v Idle None (Lock h x) w) e t

pub lock_once-requires-clause-holds : goal.lock_once-requires-clause-holds
lock_once-requires-clause-holds g c =
    holding_in c.desk.inside c.args.desk.now Weak c.args.of.place c.args.of.block.0 c.desk.invariant c.desk.view_is c.requires.holds

pub lock_once-requires-clause-word : goal.lock_once-requires-clause-word
lock_once-requires-clause-word g c =
    word_inside c.desk.inside c.domain.inside.table.shared.table_id Weak _ c.args.of.place c.args.of.block.0 0 c.desk.invariant
    (ap (λ z. z.domain) c.desk.view_is ∙ (c.requires.domain.table ∙ sym (ap (λ z. z.id) c.domain.view_is)))
    (holding_in c.desk.inside c.args.desk.now Weak c.args.of.place c.args.of.block.0 c.desk.invariant c.desk.view_is c.requires.holds) (omega arith)

pub invariant_of-desk-then-not-got : goal.invariant_of-desk-then-not-got
invariant_of-desk-then-not-got g c =
    let d = c.desk.inside in let h = c.desk.invariant in let v = d.seat.me.0 in let w = c.lock_once.new.seat.me.0 in
    let s = c.in-Some.ensures in let event = told c.if-not-got.true s.event in
    let e = Lock (on_latest (desk_now d) Weak c.args.of.place c.args.of.block.0) false in let t = came v w Idle None e event in
    let size = as_many v w e t refl in
    quiet_desk d _ e h event s.seat.0 (s.seat.2 ∙ h.rests.none) (λ y x. refl) (λ y x. refl) refl refl (omega (arith, size, h.holding))
    (omega (arith, h.within))
    (h.ended ∙ sym (ending_same v w e t (plain (λ y x. refl) (λ y x. refl) (λ y f. refl))))

pub returns-then-not-got-clause-bag : goal.returns-then-not-got-clause-bag
returns-then-not-got-clause-bag g c =
    let d = c.desk.inside in
    bag_stays d c.lock_once.new.seat.me.0 (Lock (on_latest (desk_now d) Weak c.args.of.place c.args.of.block.0) false) c.desk.invariant
    (told c.if-not-got.true c.in-Some.ensures.event) refl ∙ ap bag_of c.desk.view_is

pub returns-then-not-got-clause-keeps : goal.returns-then-not-got-clause-keeps
returns-then-not-got-clause-keeps g c =
    let d = c.desk.inside in
    keeps_quietly d c.lock_once.new.seat.me.0 (Lock (on_latest (desk_now d) Weak c.args.of.place c.args.of.block.0) false) c.desk.invariant
    (told c.if-not-got.true c.in-Some.ensures.event) _ _ c.args.desk.now c.desk.view_is c.lock_once.ensures.seat.0
    (calm (λ s n. refl) (λ s n. refl) (λ s f. refl)) (λ s n. refl) (λ s n. refl)

pub invariant_of-desk-else-not-got : goal.invariant_of-desk-else-not-got
invariant_of-desk-else-not-got g c =
    let d = c.desk.inside in let h = c.desk.invariant in let v = d.seat.me.0 in let w = c.lock_once.new.seat.me.0 in
    let s = c.in-Some.ensures in let event = told c.if-not-got.false s.event in
    let e = Lock (on_latest (desk_now d) Weak c.args.of.place c.args.of.block.0) true in let t = came v w Idle None e event in
    let size = one_more v w e t (on_latest (desk_now d) Owner c.args.of.place c.args.of.block.0) refl in
    let ne = (not_full c.desk.inside c.args.desk.now _ c.desk.invariant c.desk.view_is c.if-is_full.ensures refl) in
    quiet_desk d _ e h event s.seat.0 (s.seat.2 ∙ h.rests.none) (λ y x. refl) (λ y x. refl) refl refl (omega (arith, size, h.holding))
    (omega (arith, h.within, ne)) (h.ended ∙ sym (ending_same v w e t (plain (λ y x. refl) (λ y x. refl) (λ y f. refl))))

pub returns-else-not-got-clause-expired : goal.returns-else-not-got-clause-expired
returns-else-not-got-clause-expired g c =
    none_after c.desk.inside c.args.desk.now c.lock_once.new.seat.me.0 c.args.of.place c.args.of.block.0 true c.desk.invariant c.desk.view_is
    c.requires.holds (told c.if-not-got.false c.in-Some.ensures.event)

pub returns-else-not-got-clause-bag : goal.returns-else-not-got-clause-bag
returns-else-not-got-clause-bag g c =
    let d = c.desk.inside in let w = c.lock_once.new.seat.me.0 in let b = c.args.of.block.0 in let q = c.args.of.place in
    let e = Lock (on_latest (desk_now d) Weak q b) true in
    let holds = holding_in d c.args.desk.now Weak q b c.desk.invariant c.desk.view_is c.requires.holds in
    bag_gets d w e c.desk.invariant (told c.if-not-got.false c.in-Some.ensures.event) (on_latest (desk_now d) Owner q b) (handle Owner (Some b) q) refl
    (ap (λ n. handle Owner (Some n) q) (block_still d w e c.desk.invariant (told c.if-not-got.false c.in-Some.ensures.event) Weak _ q b holds))
    ∙ ap (λ z. handle Owner (Some b) q ∷ bag_of z) c.desk.view_is

pub returns-else-not-got-clause-keeps : goal.returns-else-not-got-clause-keeps
returns-else-not-got-clause-keeps g c =
    let d = c.desk.inside in
    keeps_quietly d c.lock_once.new.seat.me.0 (Lock (on_latest (desk_now d) Weak c.args.of.place c.args.of.block.0) true) c.desk.invariant
    (told c.if-not-got.false c.in-Some.ensures.event) _ _ c.args.desk.now c.desk.view_is c.lock_once.ensures.seat.0
    (calm (λ s n. refl) (λ s n. refl) (λ s f. refl)) (λ s n. refl) (λ s n. refl)

pub of_word-requires : goal.of_word-requires
of_word-requires g c = subst (λ (w : HandleNow). IsProper Owner w.block w.place) (sym c.requires.word) tt

pub returns-else-not-got-clause-handle : goal.returns-else-not-got-clause-handle
returns-else-not-got-clause-handle g c =
    let w = c.requires.word in let r = c.of_word.ensures in (r.0 ∙ ap (λ h. h.block) w, r.1 ∙ ap (λ h. h.place) w)
