use Rattle.std.proofs.Common.{◌+◌, ◌∷◌, Some, None, sym, refl, ap, ◌∙◌, arith}
use Rattle.control_block.proofs.Prelude.{bag_of, desk_now, DeskNow, handle, Idle, latest_of}
use Rattle.control_block.proofs.Prelude.{on_latest, Weak, WeakShare}
use Rattle.control_block.proofs.desks.DeskBags.{not_full, adds_of, bag_gets, calm, keeps_quietly}
use Rattle.control_block.proofs.desks.DeskBags.{room_left, not_limit}
use Rattle.control_block.proofs.Passage.{plain}
use Rattle.control_block.proofs.desks.DeskSteps.{ending_same, came, one_more, quiet_desk}
use Rattle.control_block.proofs.desks.WeakGifts.{may_block, may_in, may_word}
use Rattle.control_block.proofs.calls.shares.share_weak.Goals as goal

pub share_weak-weak-requires-clause-may : goal.share_weak-weak-requires-clause-may
share_weak-weak-requires-clause-may g c = may_in c.desk.inside c.args.desk.now c.args.block.0 c.args.wanted.place c.desk.invariant c.desk.view_is
    c.requires.may

pub share_weak-weak-requires-clause-word : goal.share_weak-weak-requires-clause-word
share_weak-weak-requires-clause-word g c =
    may_word c.desk.inside c.domain.inside.table.shared.table_id c.args.block.0 c.args.wanted.place c.desk.invariant
    (ap (λ z. z.domain) c.desk.view_is ∙ (c.requires.domain.table ∙ sym (ap (λ z. z.id) c.domain.view_is)))
    (may_in c.desk.inside c.args.desk.now c.args.block.0 c.args.wanted.place c.desk.invariant c.desk.view_is c.requires.may)

pub share_weak-weak-requires-clause-room : goal.share_weak-weak-requires-clause-room
share_weak-weak-requires-clause-room g c =
    room_left c.desk.inside c.desk.invariant (not_full c.desk.inside c.args.desk.now _ c.desk.invariant c.desk.view_is c.if-is_full.ensures refl)

pub invariant_of-desk : goal.invariant_of-desk
invariant_of-desk g c =
    let d = c.desk.inside in let h = c.desk.invariant in let v = d.seat.me.0 in let w = c.share_weak-weak.new.seat.me.0 in let s = c.share_weak-weak.ensures in
    let e = WeakShare (latest_of (desk_now d) c.args.block.0) c.args.wanted.place in let t = came v w Idle None e s.event in
    let size = one_more v w e t (on_latest (desk_now d) Weak c.args.wanted.place c.args.block.0) refl in
    let ne = (not_full c.desk.inside c.args.desk.now _ c.desk.invariant c.desk.view_is c.if-is_full.ensures refl) in
    quiet_desk d _ e h s.event s.seat.0 (s.seat.2 ∙ h.rests.none) (λ y x. refl) (λ y x. refl) refl refl (omega (arith, size, h.holding))
    (omega (arith, h.within, ne)) (h.ended ∙ sym (ending_same v w e t (plain (λ y x. refl) (λ y x. refl) (λ y f. refl))))

pub returns-clause-event : goal.returns-clause-event
returns-clause-event g c =
    adds_of c.desk.inside c.args.desk.now c.share_weak-weak.new.seat.me.0 _ _ (λ z. WeakShare (latest_of z c.args.block.0) c.args.wanted.place)
    c.desk.view_is c.share_weak-weak.ensures.seat.0 c.share_weak-weak.ensures.event

pub returns-clause-bag : goal.returns-clause-bag
returns-clause-bag g c =
    let d = c.desk.inside in let w = c.share_weak-weak.new.seat.me.0 in let b = c.args.block.0 in let q = c.args.wanted.place in
    let e = WeakShare (latest_of (desk_now d) c.args.block.0) c.args.wanted.place in
    let may = may_in d c.args.desk.now b q c.desk.invariant c.desk.view_is c.requires.may in
    bag_gets d w e c.desk.invariant c.share_weak-weak.ensures.event (on_latest (desk_now d) Weak q b) (handle Weak (Some b) q) refl
    (ap (λ n. handle Weak (Some n) q) (may_block d w e c.desk.invariant c.share_weak-weak.ensures.event b q may))
    ∙ ap (λ z. handle Weak (Some b) q ∷ bag_of z) c.desk.view_is

pub returns-clause-keeps : goal.returns-clause-keeps
returns-clause-keeps g c =
    let d = c.desk.inside in
    keeps_quietly d c.share_weak-weak.new.seat.me.0 (WeakShare (latest_of (desk_now d) c.args.block.0) c.args.wanted.place) c.desk.invariant
    c.share_weak-weak.ensures.event _ _ c.args.desk.now c.desk.view_is c.share_weak-weak.ensures.seat.0
    (calm (λ s n. refl) (λ s n. refl) (λ s f. refl)) (λ s n. refl) (λ s n. refl)

pub returns-then-is_full-clause-limit : goal.returns-then-is_full-clause-limit
returns-then-is_full-clause-limit g c = (λ _. c.is_full.ensures.0 c.if-is_full.true, λ _. refl)

pub returns-then-is_full-clause-refused : goal.returns-then-is_full-clause-refused
returns-then-is_full-clause-refused g c = (refl, refl)

pub returns-then-is_full-clause-handle : goal.returns-then-is_full-clause-handle
returns-then-is_full-clause-handle g c = tt

pub returns-then-is_full-clause-event : goal.returns-then-is_full-clause-event
returns-then-is_full-clause-event g c = tt

pub returns-then-is_full-clause-bag : goal.returns-then-is_full-clause-bag
returns-then-is_full-clause-bag g c = tt

pub returns-then-is_full-clause-held : goal.returns-then-is_full-clause-held
returns-then-is_full-clause-held g c = tt

pub returns-then-is_full-clause-keeps : goal.returns-then-is_full-clause-keeps
returns-then-is_full-clause-keeps g c = tt

pub share_weak-weak-requires-clause-table : goal.share_weak-weak-requires-clause-table
share_weak-weak-requires-clause-table g c = ap (λ z. z.domain) c.desk.view_is ∙ (c.requires.domain.table ∙ sym (ap (λ z. z.id) c.domain.view_is))

pub share_weak-weak-requires-clause-rests : goal.share_weak-weak-requires-clause-rests
share_weak-weak-requires-clause-rests g c = c.desk.invariant.rests

pub returns-clause-limit : goal.returns-clause-limit
returns-clause-limit g c = not_limit c.args.desk.now c.is_full.result c.is_full.ensures c.if-is_full.false

pub returns-clause-refused : goal.returns-clause-refused
returns-clause-refused g c = tt

pub returns-clause-handle : goal.returns-clause-handle
returns-clause-handle g c = c.share_weak-weak.ensures.handle

pub returns-clause-held : goal.returns-clause-held
returns-clause-held g c = ap (λ (z : DeskNow g.row.V.Denot). z.held + 1) c.desk.view_is
