use Rattle.std.proofs.Common.{sym, subst}
use Rattle.step_threads.proofs.Prelude.{FitsThread, GhostState, HasGoneOn, IsNext, Making}
use Rattle.step_threads.proofs.Prelude.{PendingCall, Rest}
use Rattle.step_threads.proofs.Threads.{fits_claim}
use Rattle.step_threads.proofs.thread.Thread.claim.Goals as goal

pub claim-requires-clause-none : goal.claim-requires-clause-none
claim-requires-clause-none c =
    let n : IsNext (Making c.args.block 5 c.args.differs) c.args.self.now.frame =
    subst (λ (h : PendingCall). IsNext h c.args.self.now.frame) c.requires.pending_call c.requires.fits.next in n.2

pub returns-clause-fits : goal.returns-clause-fits
returns-clause-fits c =
    subst (λ (v : GhostState). FitsThread c.args.desk (record { frame = c.claim.new.self; stock = c.args.self.now.stock; pending_call = Rest }) v)
    (sym c.claim.ensures.table)
    (fits_claim c.args.desk c.args.self.now c.args.table.now c.args.block c.args.differs c.args.form c.claim.new.self c.assert_invariant.ensures
    c.requires.fits c.requires.pending_call
    (subst (λ (v : GhostState). HasGoneOn c.args.desk c.args.self.now.frame c.claim.new.self v) c.claim.ensures.table c.claim.ensures.on))
