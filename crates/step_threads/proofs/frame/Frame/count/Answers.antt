use Rattle.std.proofs.Common.{Some, None, sym, refl, ap, ◌∙◌}
use Rattle.step_threads.proofs.Prelude.{by_word, Count, done_on, model_state, on, tell}
use Rattle.step_threads.proofs.Going.{comes, found_at, named_slot, stays_ready}
use Rattle.step_threads.proofs.frame.Frame.count.Goals as goal

pub get-requires : goal.get-requires
get-requires c =
    let t = c.args.self.now in
    let can = c.requires.can in
    named_slot t.registers.slots.items c.args.name c.from-from.result (comes t (Count c.args.name) can.within can.ready c.requires.act) c.from-from.ensures

pub go_on-requires-clause-ready : goal.go_on-requires-clause-ready
go_on-requires-clause-ready c =
    let can = c.requires.can in
    stays_ready c.args.self.now (Count c.args.name) can.within can.ready c.requires.act (λ e. e) refl

pub go_on-requires-in-Some-clause-ready : goal.go_on-requires-in-Some-clause-ready
go_on-requires-in-Some-clause-ready c =
    let can = c.requires.can in
    stays_ready c.args.self.now (Count c.args.name) can.within can.ready c.requires.act (λ e. e) refl

pub returns-in-None-clause-told : goal.returns-in-None-clause-told
returns-in-None-clause-told c =
    let v = c.args.table.now in
    let slots = c.args.self.now.registers.slots.items in
    sym (ap (on (by_word v (model_state v)) 0) (found_at slots c.args.name c.from-from.result c.get.result None c.get.ensures c.from-from.ensures
    c.in-None.is))

pub returns-in-None-clause-table : goal.returns-in-None-clause-table
returns-in-None-clause-table c =
    let v = c.args.table.now in
    let slots = c.args.self.now.registers.slots.items in
    sym (ap (done_on (tell v) v c.args.desk) (found_at slots c.args.name c.from-from.result c.get.result None c.get.ensures c.from-from.ensures c.in-None.is))

pub returns-in-None-clause-on : goal.returns-in-None-clause-on
returns-in-None-clause-on c = c.go_on.ensures.on c.args.desk c.args.table.now c.requires.can.holds

pub returns-in-Some-clause-told : goal.returns-in-Some-clause-told
returns-in-Some-clause-told c =
    let v = c.args.table.now in
    let slots = c.args.self.now.registers.slots.items in
    let p = c.in-Some.pointer in
    c.count-owners.ensures.told
    ∙ sym (ap (on (by_word v (model_state v)) 0) (found_at slots c.args.name c.from-from.result c.get.result (Some p) c.get.ensures
    c.from-from.ensures c.in-Some.is))

pub returns-in-Some-clause-table : goal.returns-in-Some-clause-table
returns-in-Some-clause-table c =
    let v = c.args.table.now in
    let slots = c.args.self.now.registers.slots.items in
    let p = c.in-Some.pointer in
    c.count-owners.ensures.table
    ∙ sym (ap (done_on (tell v) v c.args.desk) (found_at slots c.args.name c.from-from.result c.get.result (Some p) c.get.ensures c.from-from.ensures
    c.in-Some.is))

pub returns-in-Some-clause-on : goal.returns-in-Some-clause-on
returns-in-Some-clause-on c = c.go_on-in-Some.ensures.on c.args.desk c.count-owners.new.table c.count-owners.ensures.holds
