use Rattle.std.proofs.Common.{◌≡◌, ℕ, length, take}
use Rattle.owner_graph.proofs.Prelude.{leading, targets}
use Rattle.owner_graph.proofs.directed_graph.graph.rows_of.Given as goal

abbrev pub invariant-loop-edge : goal.invariant-loop-edge
invariant-loop-edge l =
    (length l.rows.items ≡ l.vertices) × ((v : ℕ) → targets l.rows.items v ≡ leading (take l.edge-index l.edges) v)
