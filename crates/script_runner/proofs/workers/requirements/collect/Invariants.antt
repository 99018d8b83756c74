use Rattle.std.proofs.Common.{◌≡◌, ◌+◌, ◌≤◌, List, ◌++◌, map, reverse, length, vec_capacity}
use Rattle.script_runner.proofs.Prelude.{Worker}
use Rattle.script_runner.proofs.workers.requirements.collect.Given as goal

abbrev pub invariant-loop-worker : goal.invariant-loop-worker
invariant-loop-worker g l =
    (length l.workers.items + length l.shares.items ≤ vec_capacity l.shares)
    × (length l.workers.items + length l.lines.items ≤ vec_capacity l.lines)
    × ((done : List (Worker g.row.G.Denot)) × (l.initial.workers.items ≡ l.workers.items ++ done)
    × (reverse l.shares.items ≡ map (λ w. w.log.share) done) × (reverse l.lines.items ≡ map (λ w. w.log.said) done))

abbrev pub decreases-loop-worker : goal.decreases-loop-worker
decreases-loop-worker g l = length l.workers.items
