use Rattle.std.proofs.Common.{◌≡◌, ◌<◌, ◌&&◌, ℕ, false, length}
use Rattle.owner_graph.proofs.Prelude.{slice_index_or}
use Rattle.owner_graph.proofs.reachability.marked_twice.Given as goal

abbrev pub invariant-loop-index : goal.invariant-loop-index
invariant-loop-index l =
    (length l.both.items ≡ l.index) × ((k : ℕ) → k < length l.both.items
    → slice_index_or l.both.items k false ≡ (slice_index_or l.one k false
    && slice_index_or l.other k false))
