use Rattle.std.proofs.Common.{ℕ, false, set, None, sym, ap, ◌∙◌, subst}
use Rattle.step_threads.proofs.Prelude.{done_on, frame_settled, is_last, IsReady, leave}
use Rattle.step_threads.proofs.Prelude.{model_state, on, plain, rest, Slots}
use Rattle.step_threads.proofs.Going.{found_at, leaves_ready, left_name, named_slot}
use Rattle.step_threads.proofs.frame.Frame.leave.Goals as goal

pub get-requires : goal.get-requires
get-requires c =
    let t = c.args.self.now in
    let can = c.requires.can in
    named_slot t.registers.slots.items c.args.name c.from-from.result (left_name t c.args.name can.within can.ready c.requires.act) c.from-from.ensures

pub set_empty-requires-clause-inside : goal.set_empty-requires-clause-inside
set_empty-requires-clause-inside c =
    let t = c.args.self.now in
    let can = c.requires.can in
    named_slot t.registers.slots.items c.args.name c.from-from.result (left_name t c.args.name can.within can.ready c.requires.act) c.from-from.ensures

pub set_empty-requires-clause-empty : goal.set_empty-requires-clause-empty
set_empty-requires-clause-empty c = sym c.get.ensures ∙ c.in-None.is

pub go_on-requires-clause-ready : goal.go_on-requires-clause-ready
go_on-requires-clause-ready c =
    let t = c.args.self.now in
    let e = c.set_empty.ensures.slots ∙ ap (λ (i : ℕ). set t.registers.slots.items i plain) c.from-from.ensures in
    subst (λ (l : Slots). IsReady l t.taken t.endings.list (rest t)) (sym e)
    (leaves_ready t c.args.name c.requires.can.within c.requires.can.ready c.requires.act)

pub leave-last-requires-clause-inside : goal.leave-last-requires-clause-inside
leave-last-requires-clause-inside c =
    let t = c.args.self.now in
    let can = c.requires.can in
    named_slot t.registers.slots.items c.args.name c.from-from.result (left_name t c.args.name can.within can.ready c.requires.act) c.from-from.ensures

pub leave-last-requires-clause-from : goal.leave-last-requires-clause-from
leave-last-requires-clause-from c = sym c.get.ensures ∙ c.in-Some.is

pub go_on-requires-in-Some-clause-ready : goal.go_on-requires-in-Some-clause-ready
go_on-requires-in-Some-clause-ready c =
    let t = c.args.self.now in
    let e = c.leave-last.ensures.slots ∙ ap (λ (i : ℕ). set t.registers.slots.items i plain) c.from-from.ensures in
    subst (λ (l : Slots). IsReady l t.taken t.endings.list (rest t)) (sym e)
    (leaves_ready t c.args.name c.requires.can.within c.requires.can.ready c.requires.act)

pub returns-in-None-clause-last : goal.returns-in-None-clause-last
returns-in-None-clause-last c =
    let slots = c.args.self.now.registers.slots.items in
    sym (ap (on (is_last (model_state c.args.table.now)) false)
    (found_at slots c.args.name c.from-from.result c.get.result None c.get.ensures c.from-from.ensures c.in-None.is))

pub returns-in-None-clause-table : goal.returns-in-None-clause-table
returns-in-None-clause-table c =
    let slots = c.args.self.now.registers.slots.items in
    let v = c.args.table.now in
    sym (ap (done_on (leave (model_state v)) v c.args.desk)
    (found_at slots c.args.name c.from-from.result c.get.result None c.get.ensures c.from-from.ensures c.in-None.is))

pub returns-in-None-clause-frame_view : goal.returns-in-None-clause-frame_view
returns-in-None-clause-frame_view c =
    let t = c.args.self.now in
    let e = c.set_empty.ensures.slots ∙ ap (λ (i : ℕ). set t.registers.slots.items i plain) c.from-from.ensures in
    c.go_on.ensures.frame_view ∙ ap (λ (l : Slots). frame_settled l t.taken t.endings.list (rest t)) e

pub returns-in-None-clause-on : goal.returns-in-None-clause-on
returns-in-None-clause-on c =
    let v = c.args.table.now in
    c.go_on.ensures.on c.args.desk v (c.set_empty.ensures.holds c.args.desk v c.requires.can.holds)

pub returns-in-Some-clause-last : goal.returns-in-Some-clause-last
returns-in-Some-clause-last c =
    let slots = c.args.self.now.registers.slots.items in
    c.leave-last.ensures.last ∙ sym (ap (on (is_last (model_state c.args.table.now)) false)
    (found_at slots c.args.name c.from-from.result c.get.result _ c.get.ensures c.from-from.ensures c.in-Some.is))

pub returns-in-Some-clause-table : goal.returns-in-Some-clause-table
returns-in-Some-clause-table c =
    let slots = c.args.self.now.registers.slots.items in
    let v = c.args.table.now in
    c.leave-last.ensures.table ∙ sym (ap (done_on (leave (model_state v)) v c.args.desk)
    (found_at slots c.args.name c.from-from.result c.get.result _ c.get.ensures c.from-from.ensures c.in-Some.is))

pub returns-in-Some-clause-frame_view : goal.returns-in-Some-clause-frame_view
returns-in-Some-clause-frame_view c =
    let t = c.args.self.now in
    let e = c.leave-last.ensures.slots ∙ ap (λ (i : ℕ). set t.registers.slots.items i plain) c.from-from.ensures in
    c.go_on-in-Some.ensures.frame_view ∙ ap (λ (l : Slots). frame_settled l t.taken t.endings.list (rest t)) e

pub returns-in-Some-clause-on : goal.returns-in-Some-clause-on
returns-in-Some-clause-on c = c.go_on-in-Some.ensures.on c.args.desk c.leave-last.new.table c.leave-last.ensures.holds
