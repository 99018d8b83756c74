use Rattle.std.proofs.Common.{sym, refl, ap, ◌∙◌}
use Rattle.step_threads.proofs.Prelude.{brings, frame_view, hand, Quiet, Said, silent}
use Rattle.step_threads.proofs.Prelude.{slot_pointer, Swap, task_at}
use Rattle.step_threads.proofs.Steps.{stepped_as, waits_act}
use Rattle.step_threads.proofs.StoreFits.{going_is, swap_goes}
use Rattle.step_threads.proofs.StoreSteps.{step_brings}
use Rattle.step_threads.proofs.thread.Thread.store.Goals as goal

pub returns-clause-stepped : goal.returns-clause-stepped
returns-clause-stepped c =
    let d = c.args.desk in
    let t = c.args.self.now in
    let v = c.args.table.now in
    let slots = t.frame.registers.slots.items in
    let n = (task_at t.frame).statement in
    let x = c.in-Some.pointer in
    let may = swap_goes t.frame c.args.cell c.requires.begins.within c.requires.begins.fits.still c.requires.act in
    let goes = going_is slots c.args.cell (hand slots) may.0 may.1 in
    let at = sym (c.get.ensures ∙ ap (slot_pointer slots) c.hand-hand.ensures) ∙ c.in-Some.is in
    stepped_as d t v (brings (frame_view t.frame) n x) _ _ _
    (waits_act t v (Swap c.args.cell) c.requires.begins.rest c.requires.begins.none c.requires.begins.within c.requires.act)
    (step_brings d t v (Swap c.args.cell) c.args.cell (hand slots) c.requires.begins.none c.requires.begins.within c.requires.act refl x c.requires.begins.rest
    goes at)
    (ap (λ (s : Said). Quiet s) (c.silent.ensures ∙ ap silent c.statement-statement.ensures)) c.bring.ensures.table refl refl
