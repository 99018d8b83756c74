use Rattle.std.proofs.Common.{◌≡◌, take, sum_by}
use Rattle.step_core.proofs.Prelude.{steps_of}
use Rattle.step_core.proofs.execution.steps_left.Given as goal

abbrev pub invariant-loop-thread : goal.invariant-loop-thread
invariant-loop-thread l = l.left ≡ sum_by steps_of (take l.thread-index l.threads)
