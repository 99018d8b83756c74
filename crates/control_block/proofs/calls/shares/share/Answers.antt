use Rattle.std.proofs.Common.{◌+◌, ◌∷◌, Some, None, sym, refl, ap, ◌∙◌, arith}
use Rattle.control_block.proofs.Prelude.{bag_of, desk_now, DeskNow, handle, Idle, on_latest, Owner}
use Rattle.control_block.proofs.Prelude.{Share}
use Rattle.control_block.proofs.desks.DeskBags.{not_full, adds_of, bag_gets, block_still}
use Rattle.control_block.proofs.desks.DeskBags.{holding_in, calm, keeps_quietly, points_well}
use Rattle.control_block.proofs.desks.DeskBags.{room_left, not_limit}
use Rattle.control_block.proofs.Passage.{plain}
use Rattle.control_block.proofs.desks.DeskSteps.{ending_same, came, one_more, quiet_desk}
use Rattle.control_block.proofs.desks.DeskSteps.{word_inside}
use Rattle.control_block.proofs.calls.shares.share.Goals as goal

pub share-shared-requires-clause-holds : goal.share-shared-requires-clause-holds
share-shared-requires-clause-holds g c =
    holding_in c.desk.inside c.args.desk.now Owner c.args.of.place c.args.of.block.0 c.desk.invariant c.desk.view_is c.requires.holds

pub share-shared-requires-clause-word : goal.share-shared-requires-clause-word
share-shared-requires-clause-word g c =
    word_inside c.desk.inside c.domain.inside.table.shared.table_id Owner _ c.args.of.place c.args.of.block.0 0 c.desk.invariant
    (ap (λ z. z.domain) c.desk.view_is ∙ (c.requires.domain.table ∙ sym (ap (λ z. z.id) c.domain.view_is)))
    (holding_in c.desk.inside c.args.desk.now Owner c.args.of.place c.args.of.block.0 c.desk.invariant c.desk.view_is c.requires.holds) (omega arith)

pub share-shared-requires-clause-wanted : goal.share-shared-requires-clause-wanted
share-shared-requires-clause-wanted g c =
    points_well c.desk.inside c.args.desk.now c.args.of.place c.args.wanted.place c.args.of.block.0 c.desk.invariant c.desk.view_is c.requires.holds
    c.requires.wanted

pub share-shared-requires-clause-room : goal.share-shared-requires-clause-room
share-shared-requires-clause-room g c =
    room_left c.desk.inside c.desk.invariant (not_full c.desk.inside c.args.desk.now _ c.desk.invariant c.desk.view_is c.if-is_full.ensures refl)

pub invariant_of-desk : goal.invariant_of-desk
invariant_of-desk g c =
    let d = c.desk.inside in let h = c.desk.invariant in let v = d.seat.me.0 in let w = c.share-shared.new.seat.me.0 in let s = c.share-shared.ensures in
    let e = Share (on_latest (desk_now d) Owner c.args.of.place c.args.of.block.0) c.args.wanted.place in let t = came v w Idle None e s.event in
    let size = one_more v w e t (on_latest (desk_now d) Owner c.args.wanted.place c.args.of.block.0) refl in
    let ne = (not_full c.desk.inside c.args.desk.now _ c.desk.invariant c.desk.view_is c.if-is_full.ensures refl) in
    quiet_desk d _ e h s.event s.seat.0 (s.seat.2 ∙ h.rests.none) (λ y x. refl) (λ y x. refl) refl refl (omega (arith, size, h.holding))
    (omega (arith, h.within, ne)) (h.ended ∙ sym (ending_same v w e t (plain (λ y x. refl) (λ y x. refl) (λ y f. refl))))

pub returns-clause-event : goal.returns-clause-event
returns-clause-event g c =
    adds_of c.desk.inside c.args.desk.now c.share-shared.new.seat.me.0 _ _
    (λ z. Share (on_latest z Owner c.args.of.place c.args.of.block.0) c.args.wanted.place)
    c.desk.view_is c.share-shared.ensures.seat.0 c.share-shared.ensures.event

pub returns-clause-bag : goal.returns-clause-bag
returns-clause-bag g c =
    let d = c.desk.inside in let w = c.share-shared.new.seat.me.0 in let b = c.args.of.block.0 in let q = c.args.wanted.place in
    let e = Share (on_latest (desk_now d) Owner c.args.of.place b) q in
    let holds = holding_in d c.args.desk.now Owner c.args.of.place b c.desk.invariant c.desk.view_is c.requires.holds in
    bag_gets d w e c.desk.invariant c.share-shared.ensures.event (on_latest (desk_now d) Owner q b) (handle Owner (Some b) q) refl
    (ap (λ n. handle Owner (Some n) q) (block_still d w e c.desk.invariant c.share-shared.ensures.event Owner _ c.args.of.place b holds))
    ∙ ap (λ z. handle Owner (Some b) q ∷ bag_of z) c.desk.view_is

pub returns-clause-keeps : goal.returns-clause-keeps
returns-clause-keeps g c =
    let d = c.desk.inside in
    keeps_quietly d c.share-shared.new.seat.me.0 (Share (on_latest (desk_now d) Owner c.args.of.place c.args.of.block.0) c.args.wanted.place) c.desk.invariant
    c.share-shared.ensures.event _ _ c.args.desk.now c.desk.view_is c.share-shared.ensures.seat.0
    (calm (λ s n. refl) (λ s n. refl) (λ s f. refl)) (λ s n. refl) (λ s n. refl)

pub returns-then-is_full-clause-limit : goal.returns-then-is_full-clause-limit
returns-then-is_full-clause-limit g c = (λ _. c.is_full.ensures.0 c.if-is_full.true, λ _. refl)

pub returns-then-is_full-clause-refused : goal.returns-then-is_full-clause-refused
returns-then-is_full-clause-refused g c = (refl, refl)

pub returns-then-is_full-clause-handle : goal.returns-then-is_full-clause-handle
returns-then-is_full-clause-handle g c = tt

pub returns-then-is_full-clause-event : goal.returns-then-is_full-clause-event
returns-then-is_full-clause-event g c = tt

pub returns-then-is_full-clause-bag : goal.returns-then-is_full-clause-bag
returns-then-is_full-clause-bag g c = tt

pub returns-then-is_full-clause-held : goal.returns-then-is_full-clause-held
returns-then-is_full-clause-held g c = tt

pub returns-then-is_full-clause-keeps : goal.returns-then-is_full-clause-keeps
returns-then-is_full-clause-keeps g c = tt

pub share-shared-requires-clause-table : goal.share-shared-requires-clause-table
share-shared-requires-clause-table g c = ap (λ z. z.domain) c.desk.view_is ∙ (c.requires.domain.table ∙ sym (ap (λ z. z.id) c.domain.view_is))

pub share-shared-requires-clause-rests : goal.share-shared-requires-clause-rests
share-shared-requires-clause-rests g c = c.desk.invariant.rests

pub returns-clause-limit : goal.returns-clause-limit
returns-clause-limit g c = not_limit c.args.desk.now c.is_full.result c.is_full.ensures c.if-is_full.false

pub returns-clause-refused : goal.returns-clause-refused
returns-clause-refused g c = tt

pub returns-clause-handle : goal.returns-clause-handle
returns-clause-handle g c = c.share-shared.ensures.handle

pub returns-clause-held : goal.returns-clause-held
returns-clause-held g c = ap (λ (z : DeskNow g.row.V.Denot). z.held + 1) c.desk.view_is
