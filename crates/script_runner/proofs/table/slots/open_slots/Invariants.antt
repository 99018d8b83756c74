use Rattle.std.proofs.Common.{◌≡◌, ◌-◌, ◌≤◌, length, vec_capacity}
use Rattle.script_runner.proofs.TablePrelude.{AllVacant}
use Rattle.script_runner.proofs.table.slots.open_slots.Given as goal

abbrev pub invariant-loop-slots : goal.invariant-loop-slots
invariant-loop-slots l = AllVacant l.slots.items × (vec_capacity l.slots ≡ vec_capacity l.initial.slots) × (length l.slots.items ≤ l.count)

abbrev pub decreases-loop-slots : goal.decreases-loop-slots
decreases-loop-slots l = l.count - length l.slots.items
