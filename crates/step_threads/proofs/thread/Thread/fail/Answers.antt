use Rattle.std.proofs.Common.{ap, ◌∙◌}
use Rattle.step_threads.proofs.Prelude.{Checking, ghost_after_step, GiveBack, Kind, kind_in_state}
use Rattle.step_threads.proofs.Prelude.{model_state, OnCell, Refill}
use Rattle.step_threads.proofs.RefillFits.{fits_as, fits_failed}
use Rattle.step_threads.proofs.thread.Thread.fail.Goals as goal

pub returns-clause-fits : goal.returns-clause-fits
returns-clause-fits c =
    let d = c.args.desk in
    let t = c.args.self.now in
    let v = c.args.table.now in
    let x = c.args.found in
    let b = c.args.block in
    fits_as d t (Refill Checking c.args.cell x c.args.statement) c.at_stage-self.result _ c.give_back.new.self c.at_stage-self.ensures
    (c.give_back.ensures ∙ ap (λ (k : Kind). ghost_after_step v d (OnCell (GiveBack k b x.taken))) c.kind_in-kind.ensures)
    (fits_failed d t v c.args.cell x c.args.statement c.requires.fits b c.assert_invariant.ensures c.requires.pending_call)
