use Rattle.std.proofs.Common.{false, sym, ap, ◌∙◌, subst}
use Rattle.step_threads.proofs.Prelude.{done_on, frame_settled, is_full, is_last, IsReady, leave}
use Rattle.step_threads.proofs.Prelude.{model_state, on, Put, rest, Slots}
use Rattle.step_threads.proofs.Going.{apart_hand, comes, emptied_slot, found_at, hand_in}
use Rattle.step_threads.proofs.Going.{kept_slot, named_slot, placed_as, puts_ready}
use Rattle.step_threads.proofs.frame.Frame.put.Goals as goal

pub get-requires : goal.get-requires
get-requires c =
    let t = c.args.self.now in
    let can = c.requires.can in
    named_slot t.registers.slots.items c.args.name c.from-to.result (comes t (Put c.args.name) can.within can.ready c.requires.act) c.from-to.ensures

pub leave-last-requires-clause-inside : goal.leave-last-requires-clause-inside
leave-last-requires-clause-inside c =
    let t = c.args.self.now in
    let can = c.requires.can in
    named_slot t.registers.slots.items c.args.name c.from-to.result (comes t (Put c.args.name) can.within can.ready c.requires.act) c.from-to.ensures

pub leave-last-requires-clause-from : goal.leave-last-requires-clause-from
leave-last-requires-clause-from c = sym c.get.ensures ∙ c.in-Some.is

pub pass_on-requires-clause-from : goal.pass_on-requires-clause-from
pass_on-requires-clause-from c =
    let t = c.args.self.now in
    let can = c.requires.can in
    kept_slot t.registers.slots.items _ c.from-to.result c.hand-hand.result _ c.leave-last.ensures.slots
    (hand_in t can.ready c.hand-hand.result c.hand-hand.ensures)

pub pass_on-requires-clause-inside : goal.pass_on-requires-clause-inside
pass_on-requires-clause-inside c =
    let t = c.args.self.now in
    let can = c.requires.can in
    kept_slot t.registers.slots.items _ c.from-to.result c.from-to.result _ c.leave-last.ensures.slots
    (named_slot t.registers.slots.items c.args.name c.from-to.result (comes t (Put c.args.name) can.within can.ready c.requires.act) c.from-to.ensures)

pub pass_on-requires-clause-apart : goal.pass_on-requires-clause-apart
pass_on-requires-clause-apart c =
    let t = c.args.self.now in
    let can = c.requires.can in
    apart_hand t.registers.slots.items c.args.name c.from-to.result c.hand-hand.result can.ready.some (comes t (Put c.args.name) can.within can.ready
    c.requires.act) c.from-to.ensures c.hand-hand.ensures

pub pass_on-requires-clause-empty : goal.pass_on-requires-clause-empty
pass_on-requires-clause-empty c =
    let t = c.args.self.now in
    let can = c.requires.can in
    emptied_slot t.registers.slots.items _ c.from-to.result c.leave-last.ensures.slots
    (named_slot t.registers.slots.items c.args.name c.from-to.result (comes t (Put c.args.name) can.within can.ready c.requires.act) c.from-to.ensures)

pub go_on-requires-clause-ready : goal.go_on-requires-clause-ready
go_on-requires-clause-ready c =
    let t = c.args.self.now in
    let e = placed_as t.registers.slots.items c.args.name c.from-to.result c.hand-hand.result c.leave-last.new.self.slots.items _
    c.leave-last.ensures.slots c.pass_on.ensures.slots c.from-to.ensures c.hand-hand.ensures in
    subst (λ (l : Slots). IsReady l false t.endings.list (rest t)) (sym e)
    (puts_ready t c.args.name c.requires.can.within c.requires.can.ready c.requires.act)

pub returns-clause-full : goal.returns-clause-full
returns-clause-full c =
    let slots = c.args.self.now.registers.slots.items in
    ap is_full (found_at slots c.args.name c.from-to.result c.get.result _ c.get.ensures c.from-to.ensures c.in-Some.is)

pub returns-clause-last : goal.returns-clause-last
returns-clause-last c =
    let slots = c.args.self.now.registers.slots.items in
    c.leave-last.ensures.last ∙ sym (ap (on (is_last (model_state c.args.table.now)) false)
    (found_at slots c.args.name c.from-to.result c.get.result _ c.get.ensures c.from-to.ensures c.in-Some.is))

pub returns-clause-table : goal.returns-clause-table
returns-clause-table c =
    let slots = c.args.self.now.registers.slots.items in
    let v = c.args.table.now in
    c.leave-last.ensures.table ∙ sym (ap (done_on (leave (model_state v)) v c.args.desk)
    (found_at slots c.args.name c.from-to.result c.get.result _ c.get.ensures c.from-to.ensures c.in-Some.is))

pub returns-clause-frame_view : goal.returns-clause-frame_view
returns-clause-frame_view c =
    let t = c.args.self.now in
    let e = placed_as t.registers.slots.items c.args.name c.from-to.result c.hand-hand.result c.leave-last.new.self.slots.items _
    c.leave-last.ensures.slots c.pass_on.ensures.slots c.from-to.ensures c.hand-hand.ensures in
    c.go_on.ensures.frame_view ∙ ap (λ (l : Slots). frame_settled l false t.endings.list (rest t)) e

pub returns-clause-on : goal.returns-clause-on
returns-clause-on c =
    let w = c.leave-last.new.table in
    c.go_on.ensures.on c.args.desk w (c.pass_on.ensures.holds c.args.desk w c.leave-last.ensures.holds)
