use Rattle.std.proofs.Common.{◌≡◌, ℕ, [], length}
use Rattle.owner_graph.proofs.Prelude.{targets}
use Rattle.owner_graph.proofs.directed_graph.graph.without_edges.Given as goal

abbrev pub invariant-loop-vertex : goal.invariant-loop-vertex
invariant-loop-vertex l = (length l.rows.items ≡ l._vertex) × ((v : ℕ) → targets l.rows.items v ≡ [])
