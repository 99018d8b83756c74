use Rattle.std.proofs.Common.{arith}
use Rattle.script_runner.proofs.TasksAsk.{calls_few, calls_then}
use Rattle.script_runner.proofs.workers.requirements.objects_for.Goals as goal

pub overflow_add-objects : goal.overflow_add-objects
overflow_add-objects c =
    let few = calls_few c.args.calls.now c.loop-at.at c.loop-at.objects c.loop-at.invariant c.loop-at.auto.at-end in
    let one = c.asks_for-objects.ensures.few in
    let lt = c.loop-at-test.true in
    let long = c.well_formed.0.0 in omega (arith, few, one, lt, long)

pub loop-at-preserved : goal.loop-at-preserved
loop-at-preserved c =
    calls_then c.args.calls.now c.loop-at.at c.loop-at.objects c.loop-at.invariant c.asks_for-objects.result _ c.loop-at-test.true
    c.asks_for-objects.ensures.is
