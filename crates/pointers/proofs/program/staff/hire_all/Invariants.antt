use Rattle.std.proofs.Common.{◌≡◌, ◌+◌, ◌-◌, ◌*◌, ◌≤◌, max, length, vec_capacity}
use Rattle.pointers.proofs.Prelude.{allowance_of, AreHired, Belongs, held_of, IsPartedInto}
use Rattle.pointers.proofs.Staffs.{desks_of}
use Rattle.pointers.proofs.program.staff.hire_all.Given as goal

abbrev pub invariant-loop-domain : goal.invariant-loop-domain
invariant-loop-domain g l =
    IsPartedInto l.initial.desk l.each (desks_of l.staff.items) l.desk
    × AreHired l.domain l.program 0 l.staff.items
    × Belongs l.desk l.domain
    × (held_of l.desk ≡ held_of l.initial.desk)
    × ((l.workers - length l.staff.items) * l.each + max 1 (held_of l.initial.desk) ≤ allowance_of l.desk)
    × (vec_capacity l.staff ≡ vec_capacity l.initial.staff)
    × (length l.staff.items ≤ l.workers)

abbrev pub decreases-loop-domain : goal.decreases-loop-domain
decreases-loop-domain g l = l.workers - length l.staff.items
