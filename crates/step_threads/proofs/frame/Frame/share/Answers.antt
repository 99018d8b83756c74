use Rattle.std.proofs.Common.{true, None, sym, refl, ap, ◌∙◌, subst}
use Rattle.step_threads.proofs.Prelude.{done_on, frame_settled, is_full, IsReady, rest, Share}
use Rattle.step_threads.proofs.Prelude.{share, slot_pointer, Slots}
use Rattle.step_threads.proofs.Going.{comes, empty_copy, found_at, full_copy, hand_bare, hand_in}
use Rattle.step_threads.proofs.Going.{named_slot, takes_ready}
use Rattle.step_threads.proofs.frame.Frame.share.Goals as goal

pub get-requires : goal.get-requires
get-requires c =
    let t = c.args.self.now in
    let can = c.requires.can in
    named_slot t.registers.slots.items c.args.name c.from-from.result (comes t (Share c.args.name) can.within can.ready c.requires.act).0 c.from-from.ensures

pub place-place-requires : goal.place-place-requires
place-place-requires c =
    let t = c.args.self.now in
    let can = c.requires.can in
    named_slot t.registers.slots.items c.args.name c.from-from.result (comes t (Share c.args.name) can.within can.ready c.requires.act).0 c.from-from.ensures

pub set_empty-requires-clause-inside : goal.set_empty-requires-clause-inside
set_empty-requires-clause-inside c = hand_in c.args.self.now c.requires.can.ready c.hand-hand.result c.hand-hand.ensures

pub set_empty-requires-clause-empty : goal.set_empty-requires-clause-empty
set_empty-requires-clause-empty c =
    let t = c.args.self.now in
    let can = c.requires.can in
    ap (slot_pointer t.registers.slots.items) c.hand-hand.ensures
    ∙ hand_bare t can.ready can.ended (comes t (Share c.args.name) can.within can.ready c.requires.act).1

pub go_on-requires-clause-ready : goal.go_on-requires-clause-ready
go_on-requires-clause-ready c =
    let t = c.args.self.now in
    let can = c.requires.can in
    let e = empty_copy t.registers.slots.items c.args.name c.from-from.result c.hand-hand.result c.get.result c.place-place.result _
    c.set_empty.ensures.slots c.get.ensures c.place-place.ensures c.from-from.ensures c.hand-hand.ensures c.in-None.is in
    subst (λ (l : Slots). IsReady l true t.endings.list (rest t)) (sym e)
    (takes_ready t (Share c.args.name) can.within can.ready c.requires.act (λ q. q) _ refl)

pub share-requires-clause-from : goal.share-requires-clause-from
share-requires-clause-from c = sym c.get.ensures ∙ c.in-Some.is

pub share-requires-clause-inside : goal.share-requires-clause-inside
share-requires-clause-inside c = hand_in c.args.self.now c.requires.can.ready c.hand-hand.result c.hand-hand.ensures

pub share-requires-clause-empty : goal.share-requires-clause-empty
share-requires-clause-empty c =
    let t = c.args.self.now in
    let can = c.requires.can in
    ap (slot_pointer t.registers.slots.items) c.hand-hand.ensures
    ∙ hand_bare t can.ready can.ended (comes t (Share c.args.name) can.within can.ready c.requires.act).1

pub go_on-requires-in-Some-clause-ready : goal.go_on-requires-in-Some-clause-ready
go_on-requires-in-Some-clause-ready c =
    let t = c.args.self.now in
    let can = c.requires.can in
    let e = full_copy t.registers.slots.items c.args.name c.from-from.result c.hand-hand.result c.get.result c.in-Some.pointer _
    c.share.ensures.slots c.get.ensures c.from-from.ensures c.hand-hand.ensures c.in-Some.is in
    subst (λ (l : Slots). IsReady l true t.endings.list (rest t)) (sym e)
    (takes_ready t (Share c.args.name) can.within can.ready c.requires.act (λ q. q) _ refl)

pub returns-in-None-clause-event : goal.returns-in-None-clause-event
returns-in-None-clause-event c =
    let slots = c.args.self.now.registers.slots.items in
    sym (ap is_full (found_at slots c.args.name c.from-from.result c.get.result None c.get.ensures c.from-from.ensures c.in-None.is))

pub returns-in-None-clause-table : goal.returns-in-None-clause-table
returns-in-None-clause-table c =
    let slots = c.args.self.now.registers.slots.items in
    sym (ap (done_on share c.args.table.now c.args.desk)
    (found_at slots c.args.name c.from-from.result c.get.result None c.get.ensures c.from-from.ensures c.in-None.is))

pub returns-in-None-clause-frame_view : goal.returns-in-None-clause-frame_view
returns-in-None-clause-frame_view c =
    let t = c.args.self.now in
    let e = empty_copy t.registers.slots.items c.args.name c.from-from.result c.hand-hand.result c.get.result c.place-place.result _
    c.set_empty.ensures.slots c.get.ensures c.place-place.ensures c.from-from.ensures c.hand-hand.ensures c.in-None.is in
    c.go_on.ensures.frame_view ∙ ap (λ (l : Slots). frame_settled l true t.endings.list (rest t)) e

pub returns-in-None-clause-on : goal.returns-in-None-clause-on
returns-in-None-clause-on c =
    let v = c.args.table.now in
    c.go_on.ensures.on c.args.desk v (c.set_empty.ensures.holds c.args.desk v c.requires.can.holds)

pub returns-in-Some-clause-event : goal.returns-in-Some-clause-event
returns-in-Some-clause-event c =
    let slots = c.args.self.now.registers.slots.items in
    sym (ap is_full (found_at slots c.args.name c.from-from.result c.get.result _ c.get.ensures c.from-from.ensures c.in-Some.is))

pub returns-in-Some-clause-table : goal.returns-in-Some-clause-table
returns-in-Some-clause-table c =
    let slots = c.args.self.now.registers.slots.items in
    c.share.ensures.table ∙ sym (ap (done_on share c.args.table.now c.args.desk)
    (found_at slots c.args.name c.from-from.result c.get.result _ c.get.ensures c.from-from.ensures c.in-Some.is))

pub returns-in-Some-clause-frame_view : goal.returns-in-Some-clause-frame_view
returns-in-Some-clause-frame_view c =
    let t = c.args.self.now in
    let e = full_copy t.registers.slots.items c.args.name c.from-from.result c.hand-hand.result c.get.result c.in-Some.pointer _
    c.share.ensures.slots c.get.ensures c.from-from.ensures c.hand-hand.ensures c.in-Some.is in
    c.go_on-in-Some.ensures.frame_view ∙ ap (λ (l : Slots). frame_settled l true t.endings.list (rest t)) e

pub returns-in-Some-clause-on : goal.returns-in-Some-clause-on
returns-in-Some-clause-on c = c.go_on-in-Some.ensures.on c.args.desk c.share.new.table c.share.ensures.holds
