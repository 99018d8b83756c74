use Rattle.std.proofs.Common.{true, set, None, sym, refl, ap, ◌∙◌, subst}
use Rattle.step_threads.proofs.Prelude.{done_on, frame_settled, hand, is_full, IsReady, kind_at}
use Rattle.step_threads.proofs.Prelude.{Offer, rest, share, Slot, slot_pointer, slot_value, Slots}
use Rattle.step_threads.proofs.Going.{comes, empty_copy, fitting_is, fitting_not, found_at}
use Rattle.step_threads.proofs.Going.{full_copy, hand_bare, hand_in, hand_stays, may_go_at}
use Rattle.step_threads.proofs.Going.{named_slot, offered_fits, offered_not, plain_ready}
use Rattle.step_threads.proofs.Going.{takes_ready}
use Rattle.step_threads.proofs.frame.Frame.offer.Goals as goal

pub may_go_in-requires : goal.may_go_in-requires
may_go_in-requires c =
    let t = c.args.self.now in
    let can = c.requires.can in
    named_slot t.registers.slots.items c.args.name c.from-from.result (comes t (Offer c.args.name c.args.cell) can.within can.ready c.requires.act).0
    c.from-from.ensures

pub take-requires-clause-ready : goal.take-requires-clause-ready
take-requires-clause-ready c =
    let t = c.args.self.now in
    let can = c.requires.can in
    plain_ready t (Offer c.args.name c.args.cell) can.within can.ready c.requires.act (λ q. q) refl

pub returns-then-not-may_go_in-clause-event : goal.returns-then-not-may_go_in-clause-event
returns-then-not-may_go_in-clause-event c =
    let t = c.args.self.now in
    sym (ap is_full (offered_not t.registers.slots.items c.args.name c.args.cell (may_go_at t.registers.slots.items c.args.cell c.args.name
    c.from-from.result c.may_go_in.result _ c.may_go_in.ensures c.from-from.ensures c.if-not-may_go_in.true)))

pub returns-then-not-may_go_in-clause-table : goal.returns-then-not-may_go_in-clause-table
returns-then-not-may_go_in-clause-table c =
    let t = c.args.self.now in
    sym (ap (done_on share c.args.table.now c.args.desk)
    (offered_not t.registers.slots.items c.args.name c.args.cell (may_go_at t.registers.slots.items c.args.cell c.args.name c.from-from.result
    c.may_go_in.result _ c.may_go_in.ensures c.from-from.ensures c.if-not-may_go_in.true)))

pub returns-then-not-may_go_in-clause-frame_view : goal.returns-then-not-may_go_in-clause-frame_view
returns-then-not-may_go_in-clause-frame_view c =
    let t = c.args.self.now in
    let can = c.requires.can in
    let slots = t.registers.slots.items in
    let e = ap (set slots (hand slots)) (fitting_not (kind_at c.args.cell) (slot_value slots c.args.name)
    (may_go_at t.registers.slots.items c.args.cell c.args.name c.from-from.result c.may_go_in.result _ c.may_go_in.ensures c.from-from.ensures
    c.if-not-may_go_in.true))
    ∙ hand_stays t can.ready can.ended (comes t (Offer c.args.name c.args.cell) can.within can.ready c.requires.act).2 in
    c.take.ensures.frame_view ∙ ap (λ (l : Slots). frame_settled l true t.endings.list (rest t)) (sym e)

pub returns-then-not-may_go_in-clause-on : goal.returns-then-not-may_go_in-clause-on
returns-then-not-may_go_in-clause-on c = c.take.ensures.on c.args.desk c.args.table.now c.requires.can.holds

pub get-requires : goal.get-requires
get-requires c =
    let t = c.args.self.now in
    let can = c.requires.can in
    named_slot t.registers.slots.items c.args.name c.from-from.result (comes t (Offer c.args.name c.args.cell) can.within can.ready c.requires.act).0
    c.from-from.ensures

pub place-place-requires : goal.place-place-requires
place-place-requires c =
    let t = c.args.self.now in
    let can = c.requires.can in
    named_slot t.registers.slots.items c.args.name c.from-from.result (comes t (Offer c.args.name c.args.cell) can.within can.ready c.requires.act).0
    c.from-from.ensures

pub set_empty-requires-clause-inside : goal.set_empty-requires-clause-inside
set_empty-requires-clause-inside c = hand_in c.args.self.now c.requires.can.ready c.hand-hand.result c.hand-hand.ensures

pub set_empty-requires-clause-empty : goal.set_empty-requires-clause-empty
set_empty-requires-clause-empty c =
    let t = c.args.self.now in
    let can = c.requires.can in
    ap (slot_pointer t.registers.slots.items) c.hand-hand.ensures
    ∙ hand_bare t can.ready can.ended (comes t (Offer c.args.name c.args.cell) can.within can.ready c.requires.act).2

pub go_on-requires-clause-ready : goal.go_on-requires-clause-ready
go_on-requires-clause-ready c =
    let t = c.args.self.now in
    let can = c.requires.can in
    let q = (may_go_at t.registers.slots.items c.args.cell c.args.name c.from-from.result c.may_go_in.result _ c.may_go_in.ensures c.from-from.ensures
    c.if-not-may_go_in.false) in
    let e = empty_copy t.registers.slots.items c.args.name c.from-from.result c.hand-hand.result c.get.result c.place-place.result _
    c.set_empty.ensures.slots c.get.ensures c.place-place.ensures c.from-from.ensures c.hand-hand.ensures c.in-None.is in
    subst (λ (l : Slots). IsReady l true t.endings.list (rest t)) (sym e)
    (takes_ready t (Offer c.args.name c.args.cell) can.within can.ready c.requires.act (λ q. q) _ refl)

pub share-requires-clause-from : goal.share-requires-clause-from
share-requires-clause-from c = sym c.get.ensures ∙ c.in-Some.is

pub share-requires-clause-inside : goal.share-requires-clause-inside
share-requires-clause-inside c = hand_in c.args.self.now c.requires.can.ready c.hand-hand.result c.hand-hand.ensures

pub share-requires-clause-empty : goal.share-requires-clause-empty
share-requires-clause-empty c =
    let t = c.args.self.now in
    let can = c.requires.can in
    ap (slot_pointer t.registers.slots.items) c.hand-hand.ensures
    ∙ hand_bare t can.ready can.ended (comes t (Offer c.args.name c.args.cell) can.within can.ready c.requires.act).2

pub go_on-requires-in-Some-clause-ready : goal.go_on-requires-in-Some-clause-ready
go_on-requires-in-Some-clause-ready c =
    let t = c.args.self.now in
    let can = c.requires.can in
    let q = (may_go_at t.registers.slots.items c.args.cell c.args.name c.from-from.result c.may_go_in.result _ c.may_go_in.ensures c.from-from.ensures
    c.if-not-may_go_in.false) in
    let e = full_copy t.registers.slots.items c.args.name c.from-from.result c.hand-hand.result c.get.result c.in-Some.pointer _
    c.share.ensures.slots c.get.ensures c.from-from.ensures c.hand-hand.ensures c.in-Some.is in
    subst (λ (l : Slots). IsReady l true t.endings.list (rest t)) (sym e)
    (takes_ready t (Offer c.args.name c.args.cell) can.within can.ready c.requires.act (λ q. q) _ refl)

pub returns-in-None-clause-event : goal.returns-in-None-clause-event
returns-in-None-clause-event c =
    let t = c.args.self.now in
    sym (ap is_full (offered_fits t.registers.slots.items c.args.name c.args.cell c.requires.there (may_go_at t.registers.slots.items c.args.cell
    c.args.name c.from-from.result c.may_go_in.result _ c.may_go_in.ensures c.from-from.ensures c.if-not-may_go_in.false)
    ∙ found_at t.registers.slots.items c.args.name c.from-from.result c.get.result None c.get.ensures c.from-from.ensures c.in-None.is))

pub returns-in-None-clause-table : goal.returns-in-None-clause-table
returns-in-None-clause-table c =
    let t = c.args.self.now in
    sym (ap (done_on share c.args.table.now c.args.desk)
    (offered_fits t.registers.slots.items c.args.name c.args.cell c.requires.there (may_go_at t.registers.slots.items c.args.cell c.args.name
    c.from-from.result c.may_go_in.result _ c.may_go_in.ensures c.from-from.ensures c.if-not-may_go_in.false)
    ∙ found_at t.registers.slots.items c.args.name c.from-from.result c.get.result None c.get.ensures c.from-from.ensures c.in-None.is))

pub returns-in-None-clause-frame_view : goal.returns-in-None-clause-frame_view
returns-in-None-clause-frame_view c =
    let t = c.args.self.now in
    let q = (may_go_at t.registers.slots.items c.args.cell c.args.name c.from-from.result c.may_go_in.result _ c.may_go_in.ensures c.from-from.ensures
    c.if-not-may_go_in.false) in
    let e = empty_copy t.registers.slots.items c.args.name c.from-from.result c.hand-hand.result c.get.result c.place-place.result _
    c.set_empty.ensures.slots c.get.ensures c.place-place.ensures c.from-from.ensures c.hand-hand.ensures c.in-None.is in
    c.go_on.ensures.frame_view ∙ ap (λ (l : Slots). frame_settled l true t.endings.list (rest t)) e
    ∙ ap (λ (x : Slot). frame_settled (set t.registers.slots.items (hand t.registers.slots.items) x) true t.endings.list (rest t))
    (sym (fitting_is (kind_at c.args.cell) _ q))

pub returns-in-None-clause-on : goal.returns-in-None-clause-on
returns-in-None-clause-on c =
    let v = c.args.table.now in
    c.go_on.ensures.on c.args.desk v (c.set_empty.ensures.holds c.args.desk v c.requires.can.holds)

pub returns-in-Some-clause-event : goal.returns-in-Some-clause-event
returns-in-Some-clause-event c =
    let t = c.args.self.now in
    sym (ap is_full (offered_fits t.registers.slots.items c.args.name c.args.cell c.requires.there (may_go_at t.registers.slots.items c.args.cell
    c.args.name c.from-from.result c.may_go_in.result _ c.may_go_in.ensures c.from-from.ensures c.if-not-may_go_in.false)
    ∙ found_at t.registers.slots.items c.args.name c.from-from.result c.get.result _ c.get.ensures c.from-from.ensures c.in-Some.is))

pub returns-in-Some-clause-table : goal.returns-in-Some-clause-table
returns-in-Some-clause-table c =
    let t = c.args.self.now in
    c.share.ensures.table ∙ sym (ap (done_on share c.args.table.now c.args.desk)
    (offered_fits t.registers.slots.items c.args.name c.args.cell c.requires.there (may_go_at t.registers.slots.items c.args.cell c.args.name
    c.from-from.result c.may_go_in.result _ c.may_go_in.ensures c.from-from.ensures c.if-not-may_go_in.false)
    ∙ found_at t.registers.slots.items c.args.name c.from-from.result c.get.result _ c.get.ensures c.from-from.ensures c.in-Some.is))

pub returns-in-Some-clause-frame_view : goal.returns-in-Some-clause-frame_view
returns-in-Some-clause-frame_view c =
    let t = c.args.self.now in
    let q = (may_go_at t.registers.slots.items c.args.cell c.args.name c.from-from.result c.may_go_in.result _ c.may_go_in.ensures c.from-from.ensures
    c.if-not-may_go_in.false) in
    let e = full_copy t.registers.slots.items c.args.name c.from-from.result c.hand-hand.result c.get.result c.in-Some.pointer _
    c.share.ensures.slots c.get.ensures c.from-from.ensures c.hand-hand.ensures c.in-Some.is in
    c.go_on-in-Some.ensures.frame_view ∙ ap (λ (l : Slots). frame_settled l true t.endings.list (rest t)) e
    ∙ ap (λ (x : Slot). frame_settled (set t.registers.slots.items (hand t.registers.slots.items) x) true t.endings.list (rest t))
    (sym (fitting_is (kind_at c.args.cell) _ q))

pub returns-in-Some-clause-on : goal.returns-in-Some-clause-on
returns-in-Some-clause-on c = c.go_on-in-Some.ensures.on c.args.desk c.share.new.table c.share.ensures.holds
