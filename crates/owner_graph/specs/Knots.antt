-- Knots: vertices that owners lead to from each other. All of it is own.
use Rattle.std.specs.Prelude.{◌≡◌, ℕ, ◌+◌, ◌≤◌, List, length, slice_index_or}
use Rattle.owner_graph.specs.declared.holding.Holding.{Holding}
use Rattle.owner_graph.specs.Owners.{OwnersLead}

-- owners lead from each to the other: both are in one knot, and so is whatever could be added
abbrev pub KeepEachOther : List Holding → ℕ → ℕ → Type 0
KeepEachOther hs a b = OwnersLead hs a b × OwnersLead hs b a

-- the least vertex of the knot that b is in
pub record IsLeast (hs : List Holding) (b least : ℕ) : Type 0 where
  pub some : 1 ≤ least
  pub knotted : KeepEachOther hs b least
  pub first : (a : ℕ) → 1 ≤ a → KeepEachOther hs b a → least ≤ a

-- of each vertex, from 1, the least of its knot
pub record KnotsAre (vertices : ℕ) (hs : List Holding) (knots : List ℕ) : Type 0 where
  pub size : length knots ≡ vertices + 1
  pub each : (b : ℕ) → 1 ≤ b → b ≤ vertices → IsLeast hs b (slice_index_or knots b 0)
