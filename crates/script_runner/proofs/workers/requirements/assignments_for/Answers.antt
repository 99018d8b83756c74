use Rattle.std.proofs.Common.{refl, arith}
use Rattle.step_core.proofs.Programs.{more_calls}
use Rattle.script_runner.proofs.Assigning.{assignment_then, few_names, suited_names}
use Rattle.script_runner.proofs.workers.requirements.assignments_for.Goals as goal

pub assignment_for-requires-clause-calls : goal.assignment_for-requires-clause-calls
assignment_for-requires-clause-calls c =
    let m = more_calls c.args.actors.now c.loop-at.at _ c.index-actors-at.result c.loop-at-test.true c.index-actors-at.is refl in
    let few = c.requires.program.calls in omega (arith, m, few)

pub assignment_for-requires-clause-names : goal.assignment_for-requires-clause-names
assignment_for-requires-clause-names c =
    few_names c.args.actors.now c.loop-at.at c.index-actors-at.result c.requires.program c.loop-at-test.true c.index-actors-at.is

pub assignment_for-requires-clause-suits : goal.assignment_for-requires-clause-suits
assignment_for-requires-clause-suits c =
    suited_names c.args.actors.now c.loop-at.at c.index-actors-at.result c.requires.suits c.loop-at-test.true c.index-actors-at.is

pub loop-at-preserved : goal.loop-at-preserved
loop-at-preserved c =
    assignment_then c.args.objects c.args.actors.now c.loop-at.at c.index-actors-at.result c.loop-at.assignments.items c.push.new.self.items
    c.in_ok-assignment.assignment c.loop-at-test.true c.index-actors-at.is c.in_ok-push.ensures.items c.loop-at.invariant c.in_ok-assignment.ensures
