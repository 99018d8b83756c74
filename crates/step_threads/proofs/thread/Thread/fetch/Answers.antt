use Rattle.std.proofs.Common.{◌≡◌, ℕ, sym, refl, ap, ◌∙◌, subst}
use Rattle.step_threads.proofs.Prelude.{fetches, FitsThread, frame_view, GhostState, hand, Matched}
use Rattle.step_threads.proofs.Prelude.{model_state, owing_for, pending, PendingCall, Quiet, Said}
use Rattle.step_threads.proofs.Prelude.{silent, slot_pointer, slot_value, task_at, waits}
use Rattle.step_threads.proofs.CompareFits.{compare_brought}
use Rattle.step_threads.proofs.CompareSteps.{fetches_funds}
use Rattle.step_threads.proofs.LoadFits.{saw_next}
use Rattle.step_threads.proofs.RefillFits.{At}
use Rattle.step_threads.proofs.Steps.{stepped_as}
use Rattle.step_threads.proofs.thread.Thread.fetch.Goals as goal

pub returns-clause-stepped : goal.returns-clause-stepped
returns-clause-stepped c =
    let d = c.args.desk in
    let t = c.args.self.now in
    let v = c.args.table.now in
    let w = frame_view t.frame in
    let n = (task_at t.frame).statement in
    let x = c.args.found in
    let p = c.in-Some.pointer in
    let r = c.requires in
    let at = sym (c.get.ensures ∙ ap (slot_pointer t.frame.registers.slots.items) c.hand-hand.ensures) ∙ c.in-Some.is in
    stepped_as d t v (fetches w n x p) _ _ _ (ap (λ (h : PendingCall). waits v h w) r.pending_call)
    (fetches_funds d t v c.args.name c.args.cell c.args.weak x (saw_next d t v x r.fits r.pending_call).0 r.act r.pending_call r.alike p at)
    (ap (λ (s : Said). Quiet s) (c.silent.ensures ∙ ap silent c.statement-statement.ensures)) c.bring.ensures.table refl refl

pub returns-clause-fits : goal.returns-clause-fits
returns-clause-fits c =
    let d = c.args.desk in
    let t = c.args.self.now in
    let v = c.args.table.now in
    let p = c.in-Some.pointer in
    let slots = t.frame.registers.slots.items in
    let r = c.requires in
    let at = sym (c.get.ensures ∙ ap (slot_pointer slots) c.hand-hand.ensures) ∙ c.in-Some.is in
    let owes =
    subst (λ (i : ℕ). pending c.bring.new.table d ≡ owing_for (model_state c.bring.new.table) (slot_value slots i) 256) c.hand-hand.ensures
    c.bring.ensures.owes in
    subst (λ (u : GhostState). FitsThread d (At t (Matched c.args.found)) u) (sym c.bring.ensures.table)
    (compare_brought d t v c.args.name c.args.cell c.args.weak c.args.found r.fits r.act p r.pending_call r.alike at
    (subst (λ (u : GhostState). pending u d ≡ owing_for (model_state u) (slot_value slots (hand slots)) 256) c.bring.ensures.table owes))
