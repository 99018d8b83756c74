use Rattle.std.proofs.Common.{◌≡◌, ◌+◌, ◌≤◌, ◌++◌, reverse, length, vec_capacity, All}
use Rattle.pointers.proofs.Prelude.{Belongs, faults_from}
use Rattle.pointers.proofs.Staffs.{Joining, dones_of}
use Rattle.pointers.proofs.program.staff.dismiss_all.Given as goal

abbrev pub invariant-loop-worker : goal.invariant-loop-worker
invariant-loop-worker g l =
    Joining l.initial.desk l.desk l.initial.staff.items l.staff.items × Belongs l.desk l.domain
    × All (λ w. Belongs w.part.desk l.domain) l.staff.items
    × (faults_from 0 (dones_of l.initial.staff.items) ≡ faults_from 0 (dones_of l.staff.items) ++ reverse l.failed.items)
    × (length l.staff.items + length l.failed.items ≤ vec_capacity l.failed)

abbrev pub decreases-loop-worker : goal.decreases-loop-worker
decreases-loop-worker g l = goal.left-loop-worker g l
