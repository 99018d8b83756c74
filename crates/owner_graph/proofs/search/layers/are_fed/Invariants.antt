use Rattle.std.proofs.Common.{◌≡◌, ◌≢◌, ◌<◌, ℕ, true}
use Rattle.owner_graph.proofs.Prelude.{marked}
use Rattle.owner_graph.proofs.search.layers.are_fed.Given as goal

abbrev pub invariant-loop-vertex : goal.invariant-loop-vertex
invariant-loop-vertex l = (b : ℕ) → b < l.vertex → b ≢ 0 → marked l.stays b ≡ true
    → marked l.fed b ≡ true
