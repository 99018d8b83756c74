use Rattle.std.proofs.Common.{◌≡◌, ◌+◌, ℕ, length, take}
use Rattle.owner_graph.proofs.Prelude.{held_on, row_at}
use Rattle.owner_graph.proofs.rows.by_vertex.Given as goal

abbrev pub invariant-loop-handle : goal.invariant-loop-handle
invariant-loop-handle l =
    (length l.rows.items ≡ l.vertices + 1)
    × ((v : ℕ) → row_at l.rows.items v ≡ held_on (take l.handle-index l.handles) v)
