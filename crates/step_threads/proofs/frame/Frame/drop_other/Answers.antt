use Rattle.std.proofs.Common.{ℕ, false, set, sym, ap, ◌∙◌, subst}
use Rattle.step_threads.proofs.Prelude.{done_on, frame_settled, is_full, is_last, IsReady, leave}
use Rattle.step_threads.proofs.Prelude.{model_state, on, other, plain, rest, Slots}
use Rattle.step_threads.proofs.Going.{drops_ready, found_at}
use Rattle.step_threads.proofs.frame.Frame.drop_other.Goals as goal

pub leave-last-requires-clause-from : goal.leave-last-requires-clause-from
leave-last-requires-clause-from c = sym c.get.ensures ∙ c.in-Some.is

pub go_on-requires-clause-ready : goal.go_on-requires-clause-ready
go_on-requires-clause-ready c =
    let t = c.args.self.now in
    let e = c.leave-last.ensures.slots ∙ ap (λ (i : ℕ). set t.registers.slots.items i plain) c.other-other.ensures in
    subst (λ (l : Slots). IsReady l t.taken t.endings.list (rest t)) (sym e)
    (drops_ready t c.requires.can.within c.requires.can.ready c.requires.act)

pub returns-clause-full : goal.returns-clause-full
returns-clause-full c =
    let slots = c.args.self.now.registers.slots.items in
    ap is_full (found_at slots (other slots) c.other-other.result c.get.result _ c.get.ensures c.other-other.ensures c.in-Some.is)

pub returns-clause-last : goal.returns-clause-last
returns-clause-last c =
    let slots = c.args.self.now.registers.slots.items in
    c.leave-last.ensures.last ∙ sym (ap (on (is_last (model_state c.args.table.now)) false)
    (found_at slots (other slots) c.other-other.result c.get.result _ c.get.ensures c.other-other.ensures c.in-Some.is))

pub returns-clause-table : goal.returns-clause-table
returns-clause-table c =
    let slots = c.args.self.now.registers.slots.items in
    let v = c.args.table.now in
    c.leave-last.ensures.table ∙ sym (ap (done_on (leave (model_state v)) v c.args.desk)
    (found_at slots (other slots) c.other-other.result c.get.result _ c.get.ensures c.other-other.ensures c.in-Some.is))

pub returns-clause-frame_view : goal.returns-clause-frame_view
returns-clause-frame_view c =
    let t = c.args.self.now in
    let e = c.leave-last.ensures.slots ∙ ap (λ (i : ℕ). set t.registers.slots.items i plain) c.other-other.ensures in
    c.go_on.ensures.frame_view ∙ ap (λ (l : Slots). frame_settled l t.taken t.endings.list (rest t)) e

pub returns-clause-on : goal.returns-clause-on
returns-clause-on c = c.go_on.ensures.on c.args.desk c.leave-last.new.table c.leave-last.ensures.holds
