use Rattle.std.proofs.Common.{◌≡◌, ◌+◌, ◌≤◌, List, ◌++◌, reverse, length, vec_capacity, All}
use Rattle.script_runner.proofs.Prelude.{AllZip, Assignment, HasAssignment, IsNewShare}
use Rattle.script_runner.proofs.workers.requirements.assign.Given as goal

abbrev pub invariant-loop-assignment : goal.invariant-loop-assignment
invariant-loop-assignment g l =
    (length l.assignments.items ≡ length l.shares.items)
    × All (IsNewShare l.book.id) l.shares.items
    × (length l.assignments.items + length l.workers.items ≤ vec_capacity l.workers)
    × (vec_capacity l.shares ≡ vec_capacity l.initial.shares)
    × ((done : List Assignment) × (l.initial.assignments.items ≡ l.assignments.items ++ done)
    × AllZip (HasAssignment l.book.id) done (reverse l.workers.items))

abbrev pub decreases-loop-assignment : goal.decreases-loop-assignment
decreases-loop-assignment g l = length l.assignments.items
