use Rattle.std.proofs.Common.{ℕ, ◌+◌, false, get_or, sym, ap, ◌∙◌, subst}
use Rattle.step_threads.proofs.Prelude.{FitsThread, Form, ghost_after_step, GhostState, Making}
use Rattle.step_threads.proofs.Prelude.{Thread, wanted}
use Rattle.step_table.specs.declared.memory.ghost_history.AtomicStep.TheVariants as atomic_step
use Rattle.step_threads.proofs.Threads.{form_here, fits_write}
use Rattle.step_threads.proofs.thread.Thread.write.Goals as goal

pub returns-clause-fits : goal.returns-clause-fits
returns-clause-fits c =
    let t : Thread = record { frame = c.args.self.now.frame; stock = c.args.self.now.stock; pending_call = Making c.args.block (c.args.index + 1) false } in
    let e = form_here c.args.self.now.frame c.args.form c.requires.act in
    let w = subst (λ (f : Form). FitsThread c.args.desk t (ghost_after_step c.args.table.now c.args.desk (atomic_step.Write c.args.block c.args.index (get_or
    (wanted f) c.args.index 0)))) e
    (fits_write c.args.desk c.args.self.now c.args.table.now c.args.block c.args.index c.assert_invariant.ensures c.requires.fits c.requires.pending_call
    c.requires.inside) in
    subst (λ (v : GhostState). FitsThread c.args.desk t v)
    (ap (λ (n : ℕ). ghost_after_step c.args.table.now c.args.desk (atomic_step.Write c.args.block c.args.index n)) (sym c.wanted_word.ensures) ∙ sym
    c.write.ensures) w
