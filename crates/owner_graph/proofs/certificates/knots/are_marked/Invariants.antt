use Rattle.std.proofs.Common.{◌≡◌, ℕ, true, false}
use Rattle.owner_graph.proofs.Prelude.{slice_index_or, ◌≤◌}
use Rattle.owner_graph.proofs.certificates.knots.are_marked.Given as goal

abbrev pub invariant-loop-before : goal.invariant-loop-before
invariant-loop-before l = (b : ℕ) → 1 ≤ b → b ≤ l.before → slice_index_or l.marks b false ≡ true
