use Rattle.std.proofs.Common.{◌≡◌, ◌+◌, ◌≤◌, ◌++◌, reverse, length, vec_capacity}
use Rattle.scene_structures.proofs.Prelude.{filled_values}
use Rattle.scene_structures.proofs.tree.ended.Ended.into_values.Given as goal

abbrev pub invariant-loop-slot : goal.invariant-loop-slot
invariant-loop-slot g l = record {
  all : filled_values l.initial.slots.items ≡ filled_values l.slots.items ++ reverse l.values.items;
  room : length l.values.items + length l.slots.items ≤ vec_capacity l.values;
}

abbrev pub decreases-loop-slot : goal.decreases-loop-slot
decreases-loop-slot g l = goal.left-loop-slot g l
