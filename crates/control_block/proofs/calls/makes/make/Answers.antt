use Rattle.std.proofs.Common.{◌+◌, ◌∷◌, length, Some, None, sym, refl, ap, ◌∙◌, inl, arith}
use Rattle.control_block.proofs.Prelude.{bag_of, DeskNow, endings_of, handle, Idle, leads, Make}
use Rattle.control_block.proofs.Prelude.{opening_of, Owner, sound, stock_of}
use Rattle.control_word.specs.Events.{origin}
use Rattle.control_block.proofs.desks.DeskBags.{not_full, adds_of, bag_gets, before, ends_still}
use Rattle.control_block.proofs.desks.DeskBags.{legal_now, room_left, same_desk}
use Rattle.control_block.proofs.desks.DeskBlocks.{stored_block}
use Rattle.control_block.proofs.desks.OwnCounts.{made_count}
use Rattle.control_block.proofs.desks.DeskSteps.{came, desk_after, one_more}
use Rattle.control_block.proofs.desks.OwnEndings.{make_spares, made_block}
use Rattle.control_block.proofs.desks.DeskStores.{last_stored, popped, stock_shrinks, stored_word}
use Rattle.control_block.proofs.calls.makes.make.Goals as goal

pub make-requires-clause-planned : goal.make-requires-clause-planned
make-requires-clause-planned g c = (refl, refl, refl, refl)

pub make-requires-clause-stored : goal.make-requires-clause-stored
make-requires-clause-stored g c = last_stored c.desk.inside c.desk.invariant c.pop.new.self.items c.in-Some.block c.in-Some.ensures.items

pub make-requires-clause-word : goal.make-requires-clause-word
make-requires-clause-word g c =
    stored_word c.desk.inside c.desk.invariant c.domain.inside.table.shared.table_id c.in-Some.block.0
    (ap (λ z. z.domain) c.desk.view_is ∙ (c.requires.domain.table ∙ sym (ap (λ z. z.id) c.domain.view_is)))
    (last_stored c.desk.inside c.desk.invariant c.pop.new.self.items c.in-Some.block c.in-Some.ensures.items)

pub make-requires-clause-room : goal.make-requires-clause-room
make-requires-clause-room g c =
    room_left c.desk.inside c.desk.invariant (not_full c.desk.inside c.args.desk.now _ c.desk.invariant c.desk.view_is c.if-is_full.ensures refl)

pub invariant_of-desk-2 : goal.invariant_of-desk-2
invariant_of-desk-2 g c =
    let d = c.desk.inside in let h = c.desk.invariant in let v = d.seat.me.0 in let w = c.make.new.seat.me.0 in let s = c.make.ensures in
    let e = Make c.in-Some.block c.args.enabled c.args.null c.args.fields c.args.value in let t = came v w Idle None e s.event in
    let size = one_more v w e t (handle Owner _ (origin c.in-Some.block.0 c.args.null)) refl in
    let ne = (not_full c.desk.inside c.args.desk.now _ c.desk.invariant c.desk.view_is c.if-is_full.ensures refl) in
    desk_after d _ e h s.event s.seat.0 s.seat.2 (λ y x. refl) refl
    (popped d h t.state _ c.in-Some.block t.same c.in-Some.ensures.items t.asks.0) c.in-Some.ensures.capacity
    (omega (arith, size, h.holding)) (omega (arith, h.within, ne)) (h.ended ∙ sym (made_count d w _ _ _ _ _ s.event))

pub returns-clause-event : goal.returns-clause-event
returns-clause-event g c =
    adds_of c.desk.inside c.args.desk.now c.make.new.seat.me.0 _ _ (λ z. Make c.in-Some.block c.args.enabled c.args.null c.args.fields c.args.value)
    c.desk.view_is c.make.ensures.seat.0 c.make.ensures.event

pub returns-clause-bag : goal.returns-clause-bag
returns-clause-bag g c =
    let d = c.desk.inside in let w = c.make.new.seat.me.0 in let b = c.in-Some.block.0 in let q = origin b c.args.null in
    let e = Make c.in-Some.block c.args.enabled c.args.null c.args.fields c.args.value in
    bag_gets d w e c.desk.invariant c.make.ensures.event (handle Owner _ q) (handle Owner (Some b) q) refl
    (ap (λ n. handle Owner (Some n) q) (made_block (leads (opening_of d.seat.me.0.shape) (before d w e c.desk.invariant c.make.ensures.event))
    c.in-Some.block c.args.enabled c.args.null c.args.fields))
    ∙ ((λ i. handle Owner (Some b) (sym c.origin_of.ensures i) ∷ bag_of (c.desk.view_is i)))

pub returns-clause-desk : goal.returns-clause-desk
returns-clause-desk g c =
    let d = c.desk.inside in let h = c.desk.invariant in let v = d.seat.me.0 in let w = c.make.new.seat.me.0 in let s = c.make.ensures in
    let e = Make c.in-Some.block c.args.enabled c.args.null c.args.fields c.args.value in let t = came v w Idle None e s.event in
    same_desk d w e h s.event _ _ c.args.desk.now c.desk.view_is c.make.ensures.seat.0 (λ s n. refl)

pub returns-clause-count : goal.returns-clause-count
returns-clause-count g c = made_count c.desk.inside c.make.new.seat.me.0 _ _ _ _ _ c.make.ensures.event ∙ ap endings_of c.desk.view_is

pub returns-clause-stock : goal.returns-clause-stock
returns-clause-stock g c =
    let d = c.desk.inside in let h = c.desk.invariant in let v = d.seat.me.0 in let w = c.make.new.seat.me.0 in let s = c.make.ensures in
    let e = Make c.in-Some.block c.args.enabled c.args.null c.args.fields c.args.value in let t = came v w Idle None e s.event in
    stock_shrinks d h w e t c.in-Some.block.0 refl t.asks.0 ∙ ap (λ z. length (stock_of z)) c.desk.view_is

pub returns-clause-endings : goal.returns-clause-endings
returns-clause-endings g c = λ b x ends.
    let d = c.desk.inside in let h = c.desk.invariant in let v = d.seat.me.0 in let w = c.make.new.seat.me.0 in let s = c.make.ensures in
    let e = Make c.in-Some.block c.args.enabled c.args.null c.args.fields c.args.value in let t = came v w Idle None e s.event in
    let z = opening_of v.shape in let hist = before d w e h s.event in let now = legal_now d w e h s.event in
    ends_still d w e h s.event _ _ b x c.args.desk.now c.desk.view_is
    (λ p. make_spares z (leads z hist) _ v.view.name b (sound z hist now.0) p c.in-Some.block _ _ _ _ now.1.asks) ends

pub returns-then-is_full-clause-refused : goal.returns-then-is_full-clause-refused
returns-then-is_full-clause-refused g c = (refl, refl)

pub returns-then-is_full-clause-handle : goal.returns-then-is_full-clause-handle
returns-then-is_full-clause-handle g c = tt

pub returns-then-is_full-clause-event : goal.returns-then-is_full-clause-event
returns-then-is_full-clause-event g c = tt

pub returns-then-is_full-clause-bag : goal.returns-then-is_full-clause-bag
returns-then-is_full-clause-bag g c = tt

pub returns-then-is_full-clause-held : goal.returns-then-is_full-clause-held
returns-then-is_full-clause-held g c = tt

pub returns-then-is_full-clause-desk : goal.returns-then-is_full-clause-desk
returns-then-is_full-clause-desk g c = tt

pub returns-then-is_full-clause-stock : goal.returns-then-is_full-clause-stock
returns-then-is_full-clause-stock g c = tt

pub returns-then-is_full-clause-endings : goal.returns-then-is_full-clause-endings
returns-then-is_full-clause-endings g c = tt

pub returns-then-is_full-clause-count : goal.returns-then-is_full-clause-count
returns-then-is_full-clause-count g c = tt

pub returns-then-is_full-clause-refusals : goal.returns-then-is_full-clause-refusals
returns-then-is_full-clause-refusals g c = inl (refl, c.is_full.ensures.0 c.if-is_full.true)

pub returns-in_default-clause-handle : goal.returns-in_default-clause-handle
returns-in_default-clause-handle g c = tt

pub returns-in_default-clause-event : goal.returns-in_default-clause-event
returns-in_default-clause-event g c = tt

pub returns-in_default-clause-bag : goal.returns-in_default-clause-bag
returns-in_default-clause-bag g c = tt

pub returns-in_default-clause-held : goal.returns-in_default-clause-held
returns-in_default-clause-held g c = tt

pub returns-in_default-clause-desk : goal.returns-in_default-clause-desk
returns-in_default-clause-desk g c = tt

pub returns-in_default-clause-stock : goal.returns-in_default-clause-stock
returns-in_default-clause-stock g c = tt

pub returns-in_default-clause-endings : goal.returns-in_default-clause-endings
returns-in_default-clause-endings g c = tt

pub returns-in_default-clause-count : goal.returns-in_default-clause-count
returns-in_default-clause-count g c = tt

pub returns-clause-refused : goal.returns-clause-refused
returns-clause-refused g c = tt

pub returns-clause-handle : goal.returns-clause-handle
returns-clause-handle g c = (refl, c.origin_of.ensures)

pub returns-clause-held : goal.returns-clause-held
returns-clause-held g c = ap (λ (z : DeskNow g.row.V.Denot). z.held + 1) c.desk.view_is

pub returns-then-is_full-clause-block : goal.returns-then-is_full-clause-block
returns-then-is_full-clause-block g c = tt

pub returns-clause-block : goal.returns-clause-block
returns-clause-block g c =
    stored_block c.desk.inside c.desk.invariant c.in-Some.block.0
    (last_stored c.desk.inside c.desk.invariant c.pop.new.self.items c.in-Some.block c.in-Some.ensures.items)
