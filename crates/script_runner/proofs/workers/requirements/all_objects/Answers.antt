use Rattle.std.proofs.Common.{◌+◌, arith}
use Rattle.script_runner.proofs.TasksAsk.{actors_then, some_ask}
use Rattle.script_runner.proofs.workers.requirements.all_objects.Goals as goal

pub overflow_add-objects : goal.overflow_add-objects
overflow_add-objects c =
    let next = actors_then c.args.actors.now c.loop-at.at c.loop-at.objects c.objects_for-objects.result c.index-actors-at.result c.as_slice.result.now
    c.loop-at-test.true c.loop-at.invariant c.objects_for-objects.ensures c.as_slice.ensures.value in
    let few = some_ask c.args.actors.now (c.loop-at.at + 1) _ c.requires.program.calls next in omega (arith, few)

pub loop-at-preserved : goal.loop-at-preserved
loop-at-preserved c =
    actors_then c.args.actors.now c.loop-at.at c.loop-at.objects c.objects_for-objects.result c.index-actors-at.result c.as_slice.result.now
    c.loop-at-test.true c.loop-at.invariant c.objects_for-objects.ensures c.as_slice.ensures.value

pub returns-clause-few : goal.returns-clause-few
returns-clause-few c = some_ask c.args.actors.now c.loop-at.at c.loop-at.objects c.requires.program.calls c.loop-at.invariant
