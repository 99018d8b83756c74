use Rattle.std.proofs.Common.{ℕ, true, set, Some, None, Option, sym, refl, ap, ◌∙◌, subst}
use Rattle.step_threads.proofs.Prelude.{Alias, alias, aliased, done_on, Empty, frame_settled, Full}
use Rattle.step_threads.proofs.Prelude.{ghost_after_step, hand, is_full, IsReady, Place, place_in}
use Rattle.step_threads.proofs.Prelude.{rest, slot_pointer, Slots}
use Rattle.step_table.specs.AtomicSteps.{at_place}
use Rattle.step_threads.specs.Rows.{alias_of}
use Rattle.step_threads.proofs.Going.{comes, hand_bare, hand_in, named_slot, owner_at, place_as}
use Rattle.step_threads.proofs.Going.{takes_ready}
use Rattle.step_threads.proofs.frame.Frame.alias.Goals as goal

pub place-requires : goal.place-requires
place-requires c =
    let t = c.args.self.now in
    let can = c.requires.can in
    named_slot t.registers.slots.items c.args.of c.from.result (comes t (Alias c.args.name c.args.of c.args.field) can.within can.ready
    c.requires.act).1 c.from.ensures

pub owner-requires : goal.owner-requires
owner-requires c =
    let t = c.args.self.now in
    let can = c.requires.can in
    named_slot t.registers.slots.items c.args.name c.from-from.result (comes t (Alias c.args.name c.args.of c.args.field) can.within can.ready
    c.requires.act).0 c.from-from.ensures

pub set_empty-requires-clause-inside : goal.set_empty-requires-clause-inside
set_empty-requires-clause-inside c = hand_in c.args.self.now c.requires.can.ready c.hand-hand.result c.hand-hand.ensures

pub set_empty-requires-clause-empty : goal.set_empty-requires-clause-empty
set_empty-requires-clause-empty c =
    let t = c.args.self.now in
    let can = c.requires.can in
    ap (slot_pointer t.registers.slots.items) c.hand-hand.ensures
    ∙ hand_bare t can.ready can.ended (comes t (Alias c.args.name c.args.of c.args.field) can.within can.ready c.requires.act).2

pub go_on-requires-clause-ready : goal.go_on-requires-clause-ready
go_on-requires-clause-ready c =
    let t = c.args.self.now in
    let can = c.requires.can in
    let e = c.set_empty.ensures.slots ∙ ap (λ (i : ℕ). set t.registers.slots.items i (Empty c.aliased-place.result)) c.hand-hand.ensures in
    subst (λ (l : Slots). IsReady l true t.endings.list (rest t)) (sym e)
    (takes_ready t (Alias c.args.name c.args.of c.args.field) can.within can.ready c.requires.act (λ q. q) _ refl)

pub alias-requires-clause-from : goal.alias-requires-clause-from
alias-requires-clause-from c = sym c.owner.ensures ∙ c.in-Some.is

pub alias-requires-clause-inside : goal.alias-requires-clause-inside
alias-requires-clause-inside c = hand_in c.args.self.now c.requires.can.ready c.hand-hand.result c.hand-hand.ensures

pub alias-requires-clause-empty : goal.alias-requires-clause-empty
alias-requires-clause-empty c =
    let t = c.args.self.now in
    let can = c.requires.can in
    ap (slot_pointer t.registers.slots.items) c.hand-hand.ensures
    ∙ hand_bare t can.ready can.ended (comes t (Alias c.args.name c.args.of c.args.field) can.within can.ready c.requires.act).2

pub go_on-requires-in-Some-clause-ready : goal.go_on-requires-in-Some-clause-ready
go_on-requires-in-Some-clause-ready c =
    let t = c.args.self.now in
    let can = c.requires.can in
    let e = c.alias.ensures.slots ∙ ap (λ (i : ℕ). set t.registers.slots.items i (Full (at_place c.aliased-place.result c.in-Some.pointer)))
    c.hand-hand.ensures in
    subst (λ (l : Slots). IsReady l true t.endings.list (rest t)) (sym e)
    (takes_ready t (Alias c.args.name c.args.of c.args.field) can.within can.ready c.requires.act (λ q. q) _ refl)

pub returns-in-None-clause-event : goal.returns-in-None-clause-event
returns-in-None-clause-event c =
    let t = c.args.self.now in
    sym (ap is_full (owner_at t.registers.slots.items c.args.name c.from-from.result c.owner.result None c.owner.ensures c.from-from.ensures c.in-None.is))

pub returns-in-None-clause-table : goal.returns-in-None-clause-table
returns-in-None-clause-table c =
    let t = c.args.self.now in
    let v = c.args.table.now in
    sym (ap (done_on (alias (aliased c.args.field (place_in t.registers.slots.items c.args.of))) v c.args.desk)
    (owner_at t.registers.slots.items c.args.name c.from-from.result c.owner.result None c.owner.ensures c.from-from.ensures c.in-None.is))

pub returns-in-None-clause-frame_view : goal.returns-in-None-clause-frame_view
returns-in-None-clause-frame_view c =
    let t = c.args.self.now in
    let e = c.set_empty.ensures.slots ∙ ap (λ (i : ℕ). set t.registers.slots.items i (Empty c.aliased-place.result)) c.hand-hand.ensures in
    let slots = t.registers.slots.items in
    let x = ap (λ (p : Option Place). alias_of p None) (place_as t.registers.slots.items c.args.of c.from.result c.place.result c.aliased-place.result
    c.args.field c.aliased-place.ensures c.place.ensures c.from.ensures)
    ∙ sym (ap (alias_of (aliased c.args.field (place_in slots c.args.of))) (owner_at t.registers.slots.items c.args.name c.from-from.result
    c.owner.result None c.owner.ensures c.from-from.ensures c.in-None.is)) in
    c.go_on.ensures.frame_view ∙ ap (λ (l : Slots). frame_settled l true t.endings.list (rest t)) (e ∙ ap (set slots (hand slots)) x)

pub returns-in-None-clause-on : goal.returns-in-None-clause-on
returns-in-None-clause-on c =
    let v = c.args.table.now in
    c.go_on.ensures.on c.args.desk v (c.set_empty.ensures.holds c.args.desk v c.requires.can.holds)

pub returns-in-Some-clause-event : goal.returns-in-Some-clause-event
returns-in-Some-clause-event c =
    let t = c.args.self.now in
    sym (ap is_full (owner_at t.registers.slots.items c.args.name c.from-from.result c.owner.result _ c.owner.ensures c.from-from.ensures c.in-Some.is))

pub returns-in-Some-clause-table : goal.returns-in-Some-clause-table
returns-in-Some-clause-table c =
    let t = c.args.self.now in
    let v = c.args.table.now in
    c.alias.ensures.table ∙ ap (λ (p : Option Place). ghost_after_step v c.args.desk (alias p c.in-Some.pointer)) (place_as t.registers.slots.items
    c.args.of c.from.result c.place.result c.aliased-place.result c.args.field c.aliased-place.ensures c.place.ensures c.from.ensures)
    ∙ sym (ap (done_on (alias (aliased c.args.field (place_in t.registers.slots.items c.args.of))) v c.args.desk)
    (owner_at t.registers.slots.items c.args.name c.from-from.result c.owner.result _ c.owner.ensures c.from-from.ensures c.in-Some.is))

pub returns-in-Some-clause-frame_view : goal.returns-in-Some-clause-frame_view
returns-in-Some-clause-frame_view c =
    let t = c.args.self.now in
    let e = c.alias.ensures.slots ∙ ap (λ (i : ℕ). set t.registers.slots.items i (Full (at_place c.aliased-place.result c.in-Some.pointer)))
    c.hand-hand.ensures in
    let slots = t.registers.slots.items in
    let x = ap (λ (p : Option Place). alias_of p (Some c.in-Some.pointer)) (place_as t.registers.slots.items c.args.of c.from.result c.place.result
    c.aliased-place.result c.args.field c.aliased-place.ensures c.place.ensures c.from.ensures)
    ∙ sym (ap (alias_of (aliased c.args.field (place_in slots c.args.of))) (owner_at t.registers.slots.items c.args.name c.from-from.result
    c.owner.result _ c.owner.ensures c.from-from.ensures c.in-Some.is)) in
    c.go_on-in-Some.ensures.frame_view ∙ ap (λ (l : Slots). frame_settled l true t.endings.list (rest t)) (e ∙ ap (set slots (hand slots)) x)

pub returns-in-Some-clause-on : goal.returns-in-Some-clause-on
returns-in-Some-clause-on c = c.go_on-in-Some.ensures.on c.args.desk c.alias.new.table c.alias.ensures.holds
