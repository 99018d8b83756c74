use Rattle.std.proofs.Common.{◌≡◌, ◌+◌, ◌≤◌, ◌++◌, map, reverse, length, vec_capacity}
use Rattle.script_runner.proofs.table.staff.posts.man.Given as goal

abbrev pub invariant-loop-table : goal.invariant-loop-table
invariant-loop-table g l =
    (l.initial.tables.items ≡ l.tables.items ++ reverse (map (λ p. p.table) l.posts.items))
    × (l.initial.workers.items ≡ l.workers.items ++ reverse (map (λ p. p.worker) l.posts.items))
    × (length l.tables.items ≡ length l.workers.items)
    × (length l.workers.items + length l.posts.items ≤ vec_capacity l.posts)
    × (vec_capacity l.tables ≡ vec_capacity l.initial.tables) × (vec_capacity l.workers ≡ vec_capacity l.initial.workers)

abbrev pub decreases-loop-table : goal.decreases-loop-table
decreases-loop-table g l = length l.tables.items
