use Rattle.std.proofs.Common.{◌≡◌, ◌+◌, ◌++◌, drop}
use Rattle.step_threads.proofs.Prelude.{clearing}
use Rattle.step_threads.specs.Acts.{tasks_from}
use Rattle.step_threads.proofs.programs.statement.tasks.Given as goal

abbrev pub invariant-loop-i : goal.invariant-loop-i
invariant-loop-i l = l.tasks.items ++ tasks_from (l.i + 1) (drop l.i l.calls) l.names ≡ tasks_from 1 l.calls l.names

abbrev pub invariant-loop-left : goal.invariant-loop-left
invariant-loop-left l = l.tasks.items ++ clearing l.left ≡ tasks_from 1 l.fn.calls l.fn.names

abbrev pub decreases-loop-left : goal.decreases-loop-left
decreases-loop-left l = l.left
