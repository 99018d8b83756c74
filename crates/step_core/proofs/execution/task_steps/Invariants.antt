use Rattle.std.proofs.Common.{◌≡◌, take}
use Rattle.step_core.proofs.Prelude.{task_steps}
use Rattle.step_core.proofs.execution.task_steps.Given as goal

abbrev pub invariant-loop-task : goal.invariant-loop-task
invariant-loop-task l = l.left ≡ task_steps (take l.task-index l.tasks)
