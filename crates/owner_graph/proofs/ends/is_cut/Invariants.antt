use Rattle.std.proofs.Common.{◌≡◌, ℕ, false}
use Rattle.owner_graph.proofs.Prelude.{at, marked, ◌≤◌}
use Rattle.owner_graph.proofs.ends.is_cut.Given as goal

abbrev pub invariant-loop-before : goal.invariant-loop-before
invariant-loop-before l = (a : ℕ) → 1 ≤ a → a ≤ l.before → at l.knots a ≡ at l.knots l.vertex
    → marked l.stays.items a ≡ false
