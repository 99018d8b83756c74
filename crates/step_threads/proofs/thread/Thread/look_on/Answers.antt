use Rattle.std.proofs.Common.{sym, subst}
use Rattle.step_threads.proofs.Prelude.{Compare, IsNext, Load, PendingCall, Saw}
use Rattle.step_threads.proofs.StoreFits.{act_here}
use Rattle.step_threads.proofs.thread.Thread.look_on.Goals as goal

pub take-requires-clause-fits : goal.take-requires-clause-fits
take-requires-clause-fits c = c.requires.fits

pub take-requires-clause-pending_call : goal.take-requires-clause-pending_call
take-requires-clause-pending_call c = c.requires.pending_call

pub take-requires-clause-act : goal.take-requires-clause-act
take-requires-clause-act c =
    let d = c.args.desk in
    let t = c.args.self.now in
    let v = c.args.table.now in
    let r = c.requires in
    let next : IsNext (Saw c.args.found) t.frame = subst (λ (h : PendingCall). IsNext h t.frame) r.pending_call r.fits.next in
    act_here t.frame c.index.result.now (Load c.in-Load.cell) next.0 c.index.ensures c.in-Load.is

pub fetch-requires-clause-fits : goal.fetch-requires-clause-fits
fetch-requires-clause-fits c = c.requires.fits

pub fetch-requires-clause-pending_call : goal.fetch-requires-clause-pending_call
fetch-requires-clause-pending_call c = c.requires.pending_call

pub fetch-requires-clause-act : goal.fetch-requires-clause-act
fetch-requires-clause-act c =
    let d = c.args.desk in
    let t = c.args.self.now in
    let v = c.args.table.now in
    let r = c.requires in
    let next : IsNext (Saw c.args.found) t.frame = subst (λ (h : PendingCall). IsNext h t.frame) r.pending_call r.fits.next in
    act_here t.frame c.index.result.now (Compare c.in-Compare.name c.in-Compare.cell c.in-Compare.weak) next.0 c.index.ensures c.in-Compare.is

pub differ-requires-clause-fits : goal.differ-requires-clause-fits
differ-requires-clause-fits c = c.requires.fits

pub differ-requires-clause-pending_call : goal.differ-requires-clause-pending_call
differ-requires-clause-pending_call c = c.requires.pending_call

pub differ-requires-clause-act : goal.differ-requires-clause-act
differ-requires-clause-act c =
    let d = c.args.desk in
    let t = c.args.self.now in
    let v = c.args.table.now in
    let r = c.requires in
    let next : IsNext (Saw c.args.found) t.frame = subst (λ (h : PendingCall). IsNext h t.frame) r.pending_call r.fits.next in
    act_here t.frame c.index.result.now (Compare c.in-Compare.name c.in-Compare.cell c.in-Compare.weak) next.0 c.index.ensures c.in-Compare.is

pub fetch-requires-clause-alike : goal.fetch-requires-clause-alike
fetch-requires-clause-alike c = sym c.if-is_alike.ensures

pub differ-requires-clause-differs : goal.differ-requires-clause-differs
differ-requires-clause-differs c = sym c.if-is_alike.ensures
