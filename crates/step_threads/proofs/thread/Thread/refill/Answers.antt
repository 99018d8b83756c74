use Rattle.std.proofs.Common.{Bool, cond, Option, sym, ap, ◌∙◌}
use Rattle.step_threads.proofs.Prelude.{Block, Failing, ghost_after_step, kind_in_state}
use Rattle.step_threads.proofs.Prelude.{model_state, OnCell, owing_funds, Refill, Refilling, Rest}
use Rattle.step_table.specs.declared.cell_steps.cell_step.CellStep.TheVariants.{Refill as Refills}
use Rattle.step_threads.proofs.RefillFits.{fits_as, fits_missed, fits_refilled, refill_here}
use Rattle.step_threads.proofs.thread.Thread.refill.Goals as goal
use Rattle.step_threads.proofs.thread.Thread.refill.Goals.{then-refill_cell, else-refill_cell}

pub refill_cell-requires-clause-owes : goal.refill_cell-requires-clause-owes
refill_cell-requires-clause-owes c =
    let v = c.args.table.now in
    let x = c.args.found in
    let r = refill_here c.args.desk c.args.self.now v Refilling c.args.cell x c.args.statement c.requires.fits c.requires.pending_call in
    (x.place, r.pays ∙ ap (λ (o : Option Block). owing_funds (model_state v) (kind_in_state (model_state v) c.args.cell) o x.place x.taken 0) (sym r.owned))

pub returns-clause-fits : goal.returns-clause-fits
returns-clause-fits c =
    let d = c.args.desk in
    let t = c.args.self.now in
    let v = c.args.table.now in
    let cell = c.args.cell in
    let x = c.args.found in
    let k = c.args.statement in
    let w = ghost_after_step v d (OnCell (Refills cell x.taken)) in
    elim c.if-refill_cell.branch [
      | then-refill_cell p ↦
          fits_as d t Rest c.if-refill_cell.self w c.refill_cell.new.self p.self-is
          (c.refill_cell.ensures.after ∙ ap (λ (b : Bool). cond b w v) p.if-refill_cell.true)
          (fits_refilled d t v cell x k c.requires.fits c.assert_invariant.ensures c.requires.pending_call)
      | else-refill_cell p ↦
          fits_as d t (Refill Failing cell x k) c.if-refill_cell.self v c.refill_cell.new.self (p.self-is ∙ p.at_stage-self.ensures)
          (c.refill_cell.ensures.after ∙ ap (λ (b : Bool). cond b w v) p.if-refill_cell.false)
          (fits_missed d t v cell x k c.requires.fits c.requires.pending_call)
    ]
