use Rattle.std.proofs.Common.{All, sym, refl, subst, arith}
use Rattle.step_core.proofs.Prelude.{Actor, AllHaveCells, first_ghost, HasFields, IsPart, Part}
use Rattle.step_core.proofs.Prelude.{part_of}
use Rattle.step_core.proofs.Openings.{push_started}
use Rattle.step_core.proofs.Programs.{all_mapped, more_calls}
use Rattle.step_core.proofs.start.threads_of.Goals as goal

pub thread_of-requires-clause-part : goal.thread_of-requires-clause-part
thread_of-requires-clause-part c =
    subst (λ (a : Actor). IsPart (part_of a)) (sym c.index-actors-desk.is)
    (all_mapped IsPart part_of c.args.actors.now c.requires.program.each c.loop-desk.desk c.index-actors-desk.result c.loop-desk-test.true)

pub thread_of-requires-clause-calls : goal.thread_of-requires-clause-calls
thread_of-requires-clause-calls c =
    let m = more_calls c.args.actors.now c.loop-desk.desk _ c.index-actors-desk.result c.loop-desk-test.true c.index-actors-desk.is refl in
    let few = c.requires.program.calls in omega (arith, m, few)

pub thread_of-requires-clause-fields : goal.thread_of-requires-clause-fields
thread_of-requires-clause-fields c =
    subst (λ (a : Actor). All HasFields a.calls.items) (sym c.index-actors-desk.is)
    (all_mapped (λ (part : Part). All HasFields part.calls) part_of c.args.actors.now c.requires.fields c.loop-desk.desk c.index-actors-desk.result
    c.loop-desk-test.true)

pub thread_of-requires-clause-cells : goal.thread_of-requires-clause-cells
thread_of-requires-clause-cells c =
    let z = c.args.extent.now.shape in
    subst (λ (a : Actor). AllHaveCells z (part_of a)) (sym c.index-actors-desk.is)
    (all_mapped (AllHaveCells z) part_of c.args.actors.now c.requires.cells c.loop-desk.desk c.index-actors-desk.result c.loop-desk-test.true)

pub loop-desk-preserved : goal.loop-desk-preserved
loop-desk-preserved c =
    push_started (first_ghost c.args.extent.now) c.loop-desk.threads.items c.push.new.self.items c.in_ok-thread.thread c.args.actors.now
    c.loop-desk.desk c.index-actors-desk.result c.loop-desk-test.true c.index-actors-desk.is c.loop-desk.invariant c.in_ok-push.ensures.items
    c.in_ok-thread.ensures.frame_view
    c.in_ok-thread.ensures.pending_call c.in_ok-thread.ensures.fits
