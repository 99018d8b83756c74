use Rattle.std.proofs.Common.{sym, subst}
use Rattle.step_threads.proofs.Prelude.{FitsThread, GhostState, Rest}
use Rattle.step_threads.proofs.StoreFits.{fits_returned}
use Rattle.step_threads.proofs.thread.Thread.give_back.Goals as goal

pub returns-clause-fits : goal.returns-clause-fits
returns-clause-fits c =
    let t = c.args.self.now in
    subst (λ (v : GhostState). FitsThread c.args.desk (record { frame = t.frame; stock = t.stock; pending_call = Rest }) v) (sym c.give_back.ensures)
    (fits_returned c.args.desk t c.args.table.now c.args.kind c.args.block c.args.funds c.args.statement c.assert_invariant.ensures c.requires.fits
    c.requires.pending_call)
