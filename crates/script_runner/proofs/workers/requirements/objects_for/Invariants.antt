use Rattle.std.proofs.Common.{◌≡◌, take}
use Rattle.script_runner.proofs.Prelude.{asked_by_calls}
use Rattle.script_runner.proofs.workers.requirements.objects_for.Given as goal

abbrev pub invariant-loop-at : goal.invariant-loop-at
invariant-loop-at l = l.objects ≡ asked_by_calls (take l.at l.calls)
