use Rattle.std.proofs.Common.{◌≡◌, ◌+◌, ◌≤◌, ◌++◌, map, reverse, length, vec_capacity}
use Rattle.script_runner.proofs.table.staff.posts.dismiss.Given as goal

abbrev pub invariant-loop-post : goal.invariant-loop-post
invariant-loop-post g l =
    (reverse (map (λ p. p.table) l.initial.posts.items) ≡ l.tables.items ++ reverse (map (λ p. p.table) l.posts.items))
    × (reverse (map (λ p. p.worker) l.initial.posts.items) ≡ l.workers.items ++ reverse (map (λ p. p.worker) l.posts.items))
    × (length l.posts.items + length l.tables.items ≤ vec_capacity l.tables)
    × (length l.posts.items + length l.workers.items ≤ vec_capacity l.workers)

abbrev pub decreases-loop-post : goal.decreases-loop-post
decreases-loop-post g l = length l.posts.items
