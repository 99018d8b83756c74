use Rattle.std.proofs.Common.{◌≡◌, ℕ, [], length}
use Rattle.owner_graph.proofs.Prelude.{row_at}
use Rattle.owner_graph.proofs.rows.empty_rows.Given as goal

abbrev pub invariant-loop-vertex : goal.invariant-loop-vertex
invariant-loop-vertex l = (length l.rows.items ≡ l._vertex) × ((v : ℕ) → row_at l.rows.items v ≡ [])
