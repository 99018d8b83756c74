use Rattle.std.proofs.Common.{◌≡◌, map, take}
use Rattle.script_runner.proofs.Prelude.{asked_by_all, part_of}
use Rattle.script_runner.proofs.workers.requirements.all_objects.Given as goal

abbrev pub invariant-loop-at : goal.invariant-loop-at
invariant-loop-at l = l.objects ≡ asked_by_all (map part_of (take l.at l.actors))
