use Rattle.std.proofs.Common.{◌≡◌, ◌-◌, ◌≤◌, length, vec_capacity, All}
use Rattle.script_runner.proofs.TablePrelude.{IsNew, IsPartedInto}
use Rattle.script_runner.proofs.table.WorkerTable.recruit_all.Given as goal

abbrev pub invariant-loop-alloc : goal.invariant-loop-alloc
invariant-loop-alloc g l =
    IsPartedInto l.initial.self.desk l.share.allowance l.share.blocks l.tables.items l.self.desk × All (IsNew l.share.slots) l.tables.items
    × (l.self.slots ≡ l.initial.self.slots) × (l.self.endings ≡ l.initial.self.endings)
    × (l.workers ≤ vec_capacity l.tables) × (length l.tables.items ≤ l.workers)

abbrev pub decreases-loop-alloc : goal.decreases-loop-alloc
decreases-loop-alloc g l = l.workers - length l.tables.items
