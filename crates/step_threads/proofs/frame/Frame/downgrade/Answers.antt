use Rattle.std.proofs.Common.{true, set, None, Option, option_map, sym, refl, ap, ◌∙◌, subst}
use Rattle.step_threads.proofs.Prelude.{as_weak, done_on, Downgrade, downgrade, filled}
use Rattle.step_threads.proofs.Prelude.{frame_settled, hand, Handle, is_full, IsReady, rest}
use Rattle.step_threads.proofs.Prelude.{slot_pointer, Slots}
use Rattle.step_threads.proofs.Going.{comes, found_at, hand_bare, hand_in, hand_stays, named_slot}
use Rattle.step_threads.proofs.Going.{plain_ready, takes_ready, weak_copy}
use Rattle.step_threads.proofs.frame.Frame.downgrade.Goals as goal

pub get-requires : goal.get-requires
get-requires c =
    let t = c.args.self.now in
    let can = c.requires.can in
    named_slot t.registers.slots.items c.args.name c.from-from.result (comes t (Downgrade c.args.name) can.within can.ready c.requires.act).0
    c.from-from.ensures

pub go_on-requires-clause-ready : goal.go_on-requires-clause-ready
go_on-requires-clause-ready c =
    let t = c.args.self.now in
    let can = c.requires.can in
    plain_ready t (Downgrade c.args.name) can.within can.ready c.requires.act (λ q. q) refl

pub downgrade-requires-clause-from : goal.downgrade-requires-clause-from
downgrade-requires-clause-from c = sym c.get.ensures ∙ c.in-Some.is

pub downgrade-requires-clause-inside : goal.downgrade-requires-clause-inside
downgrade-requires-clause-inside c = hand_in c.args.self.now c.requires.can.ready c.hand-hand.result c.hand-hand.ensures

pub downgrade-requires-clause-empty : goal.downgrade-requires-clause-empty
downgrade-requires-clause-empty c =
    let t = c.args.self.now in
    let can = c.requires.can in
    ap (slot_pointer t.registers.slots.items) c.hand-hand.ensures
    ∙ hand_bare t can.ready can.ended (comes t (Downgrade c.args.name) can.within can.ready c.requires.act).1

pub go_on-requires-in-Some-clause-ready : goal.go_on-requires-in-Some-clause-ready
go_on-requires-in-Some-clause-ready c =
    let t = c.args.self.now in
    let can = c.requires.can in
    let e = weak_copy t.registers.slots.items c.args.name c.from-from.result c.hand-hand.result c.get.result c.in-Some.pointer _
    c.downgrade.ensures.slots c.get.ensures c.from-from.ensures c.hand-hand.ensures c.in-Some.is in
    subst (λ (l : Slots). IsReady l true t.endings.list (rest t)) (sym e)
    (takes_ready t (Downgrade c.args.name) can.within can.ready c.requires.act (λ q. q) _ refl)

pub returns-in-None-clause-event : goal.returns-in-None-clause-event
returns-in-None-clause-event c =
    let slots = c.args.self.now.registers.slots.items in
    sym (ap is_full (found_at slots c.args.name c.from-from.result c.get.result None c.get.ensures c.from-from.ensures c.in-None.is))

pub returns-in-None-clause-table : goal.returns-in-None-clause-table
returns-in-None-clause-table c =
    let slots = c.args.self.now.registers.slots.items in
    sym (ap (done_on downgrade c.args.table.now c.args.desk)
    (found_at slots c.args.name c.from-from.result c.get.result None c.get.ensures c.from-from.ensures c.in-None.is))

pub returns-in-None-clause-frame_view : goal.returns-in-None-clause-frame_view
returns-in-None-clause-frame_view c =
    let t = c.args.self.now in
    let can = c.requires.can in
    let slots = t.registers.slots.items in
    let e = ap (λ (q : Option Handle). set slots (hand slots) (filled (option_map as_weak q)))
    (found_at slots c.args.name c.from-from.result c.get.result None c.get.ensures c.from-from.ensures c.in-None.is)
    ∙ hand_stays t can.ready can.ended (comes t (Downgrade c.args.name) can.within can.ready c.requires.act).1 in
    c.go_on.ensures.frame_view ∙ ap (λ (l : Slots). frame_settled l true t.endings.list (rest t)) (sym e)

pub returns-in-None-clause-on : goal.returns-in-None-clause-on
returns-in-None-clause-on c = c.go_on.ensures.on c.args.desk c.args.table.now c.requires.can.holds

pub returns-in-Some-clause-event : goal.returns-in-Some-clause-event
returns-in-Some-clause-event c =
    let slots = c.args.self.now.registers.slots.items in
    sym (ap is_full (found_at slots c.args.name c.from-from.result c.get.result _ c.get.ensures c.from-from.ensures c.in-Some.is))

pub returns-in-Some-clause-table : goal.returns-in-Some-clause-table
returns-in-Some-clause-table c =
    let slots = c.args.self.now.registers.slots.items in
    c.downgrade.ensures.table ∙ sym (ap (done_on downgrade c.args.table.now c.args.desk)
    (found_at slots c.args.name c.from-from.result c.get.result _ c.get.ensures c.from-from.ensures c.in-Some.is))

pub returns-in-Some-clause-frame_view : goal.returns-in-Some-clause-frame_view
returns-in-Some-clause-frame_view c =
    let t = c.args.self.now in
    let e = weak_copy t.registers.slots.items c.args.name c.from-from.result c.hand-hand.result c.get.result c.in-Some.pointer _
    c.downgrade.ensures.slots c.get.ensures c.from-from.ensures c.hand-hand.ensures c.in-Some.is in
    c.go_on-in-Some.ensures.frame_view ∙ ap (λ (l : Slots). frame_settled l true t.endings.list (rest t)) e

pub returns-in-Some-clause-on : goal.returns-in-Some-clause-on
returns-in-Some-clause-on c = c.go_on-in-Some.ensures.on c.args.desk c.downgrade.new.table c.downgrade.ensures.holds
