use Rattle.std.proofs.Common.{◌≡◌, ◌+◌, ℕ, length}
use Rattle.owner_graph.proofs.Prelude.{at, IsLeast, ◌≤◌}
use Rattle.owner_graph.proofs.labels.one_by_one.Given as goal

abbrev pub invariant-loop-before : goal.invariant-loop-before
invariant-loop-before l =
    (length l.knots.items ≡ l.before + 1)
    × ((b : ℕ) → 1 ≤ b → b ≤ l.before → IsLeast l.handles b (at l.knots.items b))
