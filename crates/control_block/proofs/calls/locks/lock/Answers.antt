use Rattle.std.proofs.Common.{◌+◌, true, false, not, ◌∷◌, ◌==◌, Some, None, sym, refl, ap, ◌∙◌}
use Rattle.std.proofs.Common.{subst, arith}
use Rattle.control_block.proofs.Prelude.{bag_of, desk_now, DeskNow, handle, Idle, latest_of, Lock}
use Rattle.control_block.proofs.Prelude.{on_latest, Owner, Weak}
use Rattle.control_word.specs.State.{count}
use Rattle.control_block.specs.LockStepKinds.{before}
use Rattle.control_block.proofs.desks.DeskBags.{not_full, bag_gets, bag_stays, block_still}
use Rattle.control_block.proofs.desks.DeskBags.{holding_in, calm, keeps_quietly, adds_of}
use Rattle.control_block.proofs.desks.DeskBags.{room_left, not_limit}
use Rattle.control_block.proofs.Passage.{plain}
use Rattle.control_block.proofs.desks.DeskSteps.{ending_same, as_many, came, one_more, quiet_desk}
use Rattle.control_block.proofs.desks.DeskSteps.{word_inside}
use Rattle.control_block.proofs.desks.DeskLocks.{none_after}
use Rattle.control_block.proofs.calls.locks.lock.Goals as goal
use Rattle.control_word.specs.HandleWords.{HandleNow}
use Rattle.control_block.specs.Handles.{IsProper}

pub lock-requires-clause-holds : goal.lock-requires-clause-holds
lock-requires-clause-holds g c =
    holding_in c.desk.inside c.args.desk.now Weak c.args.of.place c.args.of.block.0 c.desk.invariant c.desk.view_is c.requires.holds

pub lock-requires-clause-word : goal.lock-requires-clause-word
lock-requires-clause-word g c =
    word_inside c.desk.inside c.domain.inside.table.shared.table_id Weak _ c.args.of.place c.args.of.block.0 0 c.desk.invariant
    (ap (λ z. z.domain) c.desk.view_is ∙ (c.requires.domain.table ∙ sym (ap (λ z. z.id) c.domain.view_is)))
    (holding_in c.desk.inside c.args.desk.now Weak c.args.of.place c.args.of.block.0 c.desk.invariant c.desk.view_is c.requires.holds) (omega arith)

pub invariant_of-desk : goal.invariant_of-desk
invariant_of-desk g c =
    let d = c.desk.inside in let h = c.desk.invariant in let v = d.seat.me.0 in let w = c.lock.new.seat.me.0 in
    let s = c.if-not-lock.ensures in
    let e = Lock (on_latest (desk_now d) Weak c.args.of.place c.args.of.block.0) false in let t = came v w Idle None e s.event in
    let size = as_many v w e t refl in
    quiet_desk d _ e h s.event s.seat.0 (s.seat.2 ∙ h.rests.none) (λ y x. refl) (λ y x. refl) refl refl (omega (arith, size, h.holding))
    (omega (arith, h.within))
    (h.ended ∙ sym (ending_same v w e t (plain (λ y x. refl) (λ y x. refl) (λ y f. refl))))

pub returns-then-not-lock-clause-bag : goal.returns-then-not-lock-clause-bag
returns-then-not-lock-clause-bag g c =
    let d = c.desk.inside in
    bag_stays d c.lock.new.seat.me.0 (Lock (on_latest (desk_now d) Weak c.args.of.place c.args.of.block.0) false) c.desk.invariant
    c.if-not-lock.ensures.event refl ∙ ap bag_of c.desk.view_is

pub returns-then-not-lock-clause-keeps : goal.returns-then-not-lock-clause-keeps
returns-then-not-lock-clause-keeps g c =
    let d = c.desk.inside in
    keeps_quietly d c.lock.new.seat.me.0 (Lock (on_latest (desk_now d) Weak c.args.of.place c.args.of.block.0) false) c.desk.invariant
    c.if-not-lock.ensures.event _ _ c.args.desk.now c.desk.view_is c.lock.ensures.seat.0
    (calm (λ s n. refl) (λ s n. refl) (λ s f. refl)) (λ s n. refl) (λ s n. refl)

pub invariant_of-desk-else-not-lock : goal.invariant_of-desk-else-not-lock
invariant_of-desk-else-not-lock g c =
    let d = c.desk.inside in let h = c.desk.invariant in let v = d.seat.me.0 in let w = c.lock.new.seat.me.0 in
    let s = c.if-not-lock.ensures in
    let e = Lock (on_latest (desk_now d) Weak c.args.of.place c.args.of.block.0) true in let t = came v w Idle None e s.event in
    let size = one_more v w e t (on_latest (desk_now d) Owner c.args.of.place c.args.of.block.0) refl in
    let ne = (not_full c.desk.inside c.args.desk.now _ c.desk.invariant c.desk.view_is c.if-is_full.ensures refl) in
    quiet_desk d _ e h s.event s.seat.0 (s.seat.2 ∙ h.rests.none) (λ y x. refl) (λ y x. refl) refl refl (omega (arith, size, h.holding))
    (omega (arith, h.within, ne)) (h.ended ∙ sym (ending_same v w e t (plain (λ y x. refl) (λ y x. refl) (λ y f. refl))))

pub returns-clause-expired : goal.returns-clause-expired
returns-clause-expired g c =
    none_after c.desk.inside c.args.desk.now c.lock.new.seat.me.0 c.args.of.place c.args.of.block.0 true c.desk.invariant c.desk.view_is
    c.requires.holds c.if-not-lock.ensures.event

pub returns-clause-bag : goal.returns-clause-bag
returns-clause-bag g c =
    let d = c.desk.inside in let w = c.lock.new.seat.me.0 in let b = c.args.of.block.0 in let q = c.args.of.place in
    let e = Lock (on_latest (desk_now d) Weak q b) true in
    let holds = holding_in d c.args.desk.now Weak q b c.desk.invariant c.desk.view_is c.requires.holds in
    bag_gets d w e c.desk.invariant c.if-not-lock.ensures.event (on_latest (desk_now d) Owner q b) (handle Owner (Some b) q) refl
    (ap (λ n. handle Owner (Some n) q) (block_still d w e c.desk.invariant c.if-not-lock.ensures.event Weak _ q b holds))
    ∙ ap (λ z. handle Owner (Some b) q ∷ bag_of z) c.desk.view_is

pub returns-clause-keeps : goal.returns-clause-keeps
returns-clause-keeps g c =
    let d = c.desk.inside in
    keeps_quietly d c.lock.new.seat.me.0 (Lock (on_latest (desk_now d) Weak c.args.of.place c.args.of.block.0) true) c.desk.invariant
    c.if-not-lock.ensures.event _ _ c.args.desk.now c.desk.view_is c.lock.ensures.seat.0
    (calm (λ s n. refl) (λ s n. refl) (λ s f. refl)) (λ s n. refl) (λ s n. refl)

pub returns-then-is_full-clause-limit : goal.returns-then-is_full-clause-limit
returns-then-is_full-clause-limit g c = (λ _. c.is_full.ensures.0 c.if-is_full.true, λ _. refl)

pub returns-then-is_full-clause-refused : goal.returns-then-is_full-clause-refused
returns-then-is_full-clause-refused g c = (refl, refl)

pub returns-then-is_full-clause-handle : goal.returns-then-is_full-clause-handle
returns-then-is_full-clause-handle g c = tt

pub returns-then-is_full-clause-event : goal.returns-then-is_full-clause-event
returns-then-is_full-clause-event g c = tt

pub returns-then-is_full-clause-exact : goal.returns-then-is_full-clause-exact
returns-then-is_full-clause-exact g c = tt

pub returns-then-is_full-clause-bag : goal.returns-then-is_full-clause-bag
returns-then-is_full-clause-bag g c = tt

pub returns-then-is_full-clause-held : goal.returns-then-is_full-clause-held
returns-then-is_full-clause-held g c = tt

pub returns-then-is_full-clause-keeps : goal.returns-then-is_full-clause-keeps
returns-then-is_full-clause-keeps g c = tt

pub returns-then-is_full-clause-expired : goal.returns-then-is_full-clause-expired
returns-then-is_full-clause-expired g c = λ _. tt

pub lock-requires-clause-table : goal.lock-requires-clause-table
lock-requires-clause-table g c = ap (λ z. z.domain) c.desk.view_is ∙ (c.requires.domain.table ∙ sym (ap (λ z. z.id) c.domain.view_is))

pub lock-requires-clause-rests : goal.lock-requires-clause-rests
lock-requires-clause-rests g c = c.desk.invariant.rests

pub lock-requires-clause-room : goal.lock-requires-clause-room
lock-requires-clause-room g c =
    room_left c.desk.inside c.desk.invariant (not_full c.desk.inside c.args.desk.now _ c.desk.invariant c.desk.view_is c.if-is_full.ensures refl)

pub returns-then-not-lock-clause-limit : goal.returns-then-not-lock-clause-limit
returns-then-not-lock-clause-limit g c = not_limit c.args.desk.now c.is_full.result c.is_full.ensures c.if-is_full.false

pub returns-then-not-lock-clause-refused : goal.returns-then-not-lock-clause-refused
returns-then-not-lock-clause-refused g c = tt

pub returns-then-not-lock-clause-event : goal.returns-then-not-lock-clause-event
returns-then-not-lock-clause-event g c =
    adds_of c.desk.inside c.args.desk.now c.lock.new.seat.me.0 _ _ (λ z. Lock (on_latest z Weak c.args.of.place c.args.of.block.0) false) c.desk.view_is
    c.if-not-lock.ensures.seat.0 c.if-not-lock.ensures.event

pub returns-then-not-lock-clause-exact : goal.returns-then-not-lock-clause-exact
returns-then-not-lock-clause-exact g c =
    c.if-not-lock.ensures.owner
    ∙ ap (λ (z : DeskNow g.row.V.Denot). not (count (before c.lock.new.seat.me.0) (latest_of z c.args.of.block.0) == 0)) c.desk.view_is

pub returns-clause-limit : goal.returns-clause-limit
returns-clause-limit g c = not_limit c.args.desk.now c.is_full.result c.is_full.ensures c.if-is_full.false

pub returns-clause-refused : goal.returns-clause-refused
returns-clause-refused g c = tt

pub returns-clause-event : goal.returns-clause-event
returns-clause-event g c =
    adds_of c.desk.inside c.args.desk.now c.lock.new.seat.me.0 _ _ (λ z. Lock (on_latest z Weak c.args.of.place c.args.of.block.0) true) c.desk.view_is
    c.if-not-lock.ensures.seat.0 c.if-not-lock.ensures.event

pub returns-clause-exact : goal.returns-clause-exact
returns-clause-exact g c =
    c.if-not-lock.ensures.owner
    ∙ ap (λ (z : DeskNow g.row.V.Denot). not (count (before c.lock.new.seat.me.0) (latest_of z c.args.of.block.0) == 0)) c.desk.view_is

pub returns-then-not-lock-clause-handle : goal.returns-then-not-lock-clause-handle
returns-then-not-lock-clause-handle g c = tt

pub returns-clause-handle : goal.returns-clause-handle
returns-clause-handle g c =
    let w = c.requires.word in let r = c.of_word.ensures in (r.0 ∙ ap (λ h. h.block) w, r.1 ∙ ap (λ h. h.place) w)

pub returns-then-not-lock-clause-expired : goal.returns-then-not-lock-clause-expired
returns-then-not-lock-clause-expired g c = λ _. refl

pub returns-clause-held : goal.returns-clause-held
returns-clause-held g c = ap (λ (z : DeskNow g.row.V.Denot). z.held + 1) c.desk.view_is

pub of_word-requires : goal.of_word-requires
of_word-requires g c = subst (λ (w : HandleNow). IsProper Owner w.block w.place) (sym c.requires.word) tt
