use Rattle.std.proofs.Common.{map, take}
use Rattle.script_runner.proofs.Prelude.{AllZip, IsAssignmentFor, part_of}
use Rattle.script_runner.proofs.workers.requirements.assignments_for.Given as goal

abbrev pub invariant-loop-at : goal.invariant-loop-at
invariant-loop-at l = AllZip (IsAssignmentFor l.fn.objects) (map part_of (take l.at l.actors)) l.assignments.items
