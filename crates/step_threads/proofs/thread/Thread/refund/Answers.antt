use Rattle.std.proofs.Common.{ap, ◌∙◌}
use Rattle.step_threads.proofs.Prelude.{Bring, ghost_after_step, Kind, kind_in_state, model_state}
use Rattle.step_threads.proofs.Prelude.{OnCell, Refill, Refilling}
use Rattle.step_threads.proofs.RefillFits.{fits_as, fits_refunded}
use Rattle.step_threads.proofs.thread.Thread.refund.Goals as goal

pub returns-clause-fits : goal.returns-clause-fits
returns-clause-fits c =
    let d = c.args.desk in
    let t = c.args.self.now in
    let v = c.args.table.now in
    let x = c.args.found in
    let b = c.args.block in
    fits_as d t (Refill Refilling c.args.cell x c.args.statement) c.at_stage-self.result _ c.bring.new.self c.at_stage-self.ensures
    (c.bring.ensures ∙ ap (λ (k : Kind). ghost_after_step v d (OnCell (Bring k b x.place x.taken))) c.kind_in.ensures)
    (fits_refunded d t v c.args.cell x c.args.statement c.requires.fits b c.assert_invariant.ensures c.requires.pending_call c.requires.owned)
