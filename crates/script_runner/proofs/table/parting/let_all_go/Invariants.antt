use Rattle.std.proofs.Common.{length}
use Rattle.script_runner.proofs.Letting.{Letting}
use Rattle.script_runner.proofs.table.parting.let_all_go.Given as goal

abbrev pub invariant-loop-slot : goal.invariant-loop-slot
invariant-loop-slot g l = Letting l.domain l.initial.desk l.desk l.initial.pile l.pile l.initial.slots.items l.slots.items

abbrev pub decreases-loop-slot : goal.decreases-loop-slot
decreases-loop-slot g l = length l.slots.items
