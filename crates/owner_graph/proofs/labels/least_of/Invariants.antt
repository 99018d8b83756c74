use Rattle.std.proofs.Common.{◌≡◌, ℕ, false}
use Rattle.owner_graph.proofs.Prelude.{slice_index_or, ◌≤◌}
use Rattle.owner_graph.proofs.labels.least_of.Given as goal

abbrev pub invariant-loop-before : goal.invariant-loop-before
invariant-loop-before l = (a : ℕ) → 1 ≤ a → a ≤ l.before
    → slice_index_or l.marks.items a false ≡ false
