use Rattle.std.proofs.Common.{◌≡◌, ◌+◌, ℕ, length}
use Rattle.owner_graph.proofs.Prelude.{AreWeakenings, at, knot_ties, labels_of, pairs_at, ◌≤◌}
use Rattle.owner_graph.proofs.findings.all_weakenings.Given as goal

abbrev pub invariant-loop-before : goal.invariant-loop-before
invariant-loop-before l =
    (length l.all.items ≡ l.before + 1) × ((k : ℕ) → 1 ≤ k → k ≤ l.before → at l.knots k ≡ k
    → AreWeakenings l.vertices l.handles
    l.knots k (labels_of (knot_ties l.kept l.knots l.vertices l.handles k))
    (pairs_at l.all.items k))
