use Rattle.std.proofs.Common.{◌≡◌, take, sum_by}
use Rattle.step_threads.proofs.Prelude.{ending_steps}
use Rattle.step_threads.proofs.ending.ending_steps.Given as goal

abbrev pub invariant-loop-ending : goal.invariant-loop-ending
invariant-loop-ending l = l.left ≡ sum_by ending_steps (take l.ending-index l.endings)
