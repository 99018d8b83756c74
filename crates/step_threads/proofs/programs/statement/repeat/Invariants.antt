use Rattle.std.proofs.Common.{◌≡◌, ◌++◌, replicate}
use Rattle.step_threads.specs.Acts.{numbered_tasks}
use Rattle.step_threads.proofs.programs.statement.repeat.Given as goal

abbrev pub invariant-loop-left : goal.invariant-loop-left
invariant-loop-left l =
    l.tasks.items ++ numbered_tasks l.statement (replicate l.left l.act) ≡ l.initial.tasks.items ++ numbered_tasks l.statement (replicate l.count l.act)

abbrev pub decreases-loop-left : goal.decreases-loop-left
decreases-loop-left l = l.left
