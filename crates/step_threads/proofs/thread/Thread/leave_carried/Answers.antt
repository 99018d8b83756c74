use Rattle.std.proofs.Common.{◌≡◌, ℕ, drop, set, Some, None, sym, refl, ap, ◌∙◌}
use Rattle.step_threads.proofs.Prelude.{Event, ghost_after_step, hand, Handle, is_last, leave}
use Rattle.step_threads.proofs.Prelude.{model_state, plain, same_Some, slot_pointer}
use Rattle.step_threads.proofs.Carrying.{carried_room, fits_carried}
use Rattle.step_threads.proofs.CarrySteps.{stepped_carried}
use Rattle.step_threads.proofs.Endings.{room_weak}
use Rattle.step_threads.proofs.holding.Ends.{first_is}
use Rattle.step_threads.proofs.thread.Thread.leave_carried.Goals as goal

pub left-ended-requires-clause-begins : goal.left-ended-requires-clause-begins
left-ended-requires-clause-begins c = λ x at.
    let v = c.args.table.now in
    let same = same_Some c.in-Some.pointer x at in
    carried_room c.args.desk c.args.self.now.frame v c.leave-last.new.table x c.leave-last.result c.assert_invariant.ensures c.assert_invariant-2.ensures
    c.requires.fits.endings (c.leave-last.ensures.table ∙ ap (λ (p : Handle). ghost_after_step v c.args.desk (leave (model_state v) p)) same)
    (c.leave-last.ensures.last ∙ ap (λ (p : Handle). is_last (model_state v) p) same)

pub left-ended-requires-clause-room : goal.left-ended-requires-clause-room
left-ended-requires-clause-room c = λ x.
    room_weak c.args.table.now c.leave-last.new.table c.args.desk c.args.self.now (Some c.in-Some.pointer) c.leave-last.result x c.assert_invariant.ensures
    c.assert_invariant-2.ensures c.requires.fits c.requires.rest c.leave-last.ensures.table c.leave-last.ensures.last

pub returns-clause-fits : goal.returns-clause-fits
returns-clause-fits c =
    let t = c.args.self.now in
    let slots = t.frame.registers.slots.items in
    fits_carried c.args.desk t c.left-ended.new.self c.args.table.now c.leave-last.new.table c.leave-last.new.self c.args.ending.statement
    c.in-Some.pointer c.leave-last.result c.args.ending (drop 1 t.frame.endings.list) c.assert_invariant.ensures c.assert_invariant-2.ensures c.requires.fits
    c.requires.rest (first_is t.frame.endings.list c.args.ending c.requires.first) c.leave-last.ensures.table c.leave-last.ensures.last
    c.leave-last.ensures.holds (c.leave-last.ensures.slots ∙ ap (λ (i : ℕ). set slots i plain) c.hand-hand.ensures) c.left-ended.ensures.frame
    c.left-ended.ensures.endings c.left-ended.ensures.roomy c.left-ended.ensures.pending_call c.left-ended.ensures.stock

pub returns-clause-stepped : goal.returns-clause-stepped
returns-clause-stepped c =
    let t = c.args.self.now in
    let slots = t.frame.registers.slots.items in
    let at : slot_pointer slots (hand slots) ≡ Some c.in-Some.pointer =
    ap (slot_pointer slots) (sym c.hand-hand.ensures) ∙ sym c.get.ensures ∙ c.in-Some.is in
    stepped_carried c.args.desk t c.left-ended.new.self c.args.table.now c.leave-last.new.table c.leave-last.new.self c.in-Some.pointer
    c.leave-last.result c.args.ending (drop 1 t.frame.endings.list) c.requires.fits
    (first_is t.frame.endings.list c.args.ending c.requires.first) at c.leave-last.ensures.last c.left-ended.ensures.frame
    (c.leave-last.ensures.slots ∙ ap (λ (i : ℕ). set slots i plain) c.hand-hand.ensures) c.left-ended.ensures.endings c.left-ended.result
    (Event (record { statement = c.args.ending.statement; answer = None; ended = c.left-ended.result })) c.requires.rest c.requires.carried
    c.leave-last.ensures.table c.left-ended.ensures.ended c.left-ended.ensures.pending_call refl
