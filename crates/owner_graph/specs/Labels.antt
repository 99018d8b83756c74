-- Labels of vertices that are to be checked. All of it is own.
use Rattle.std.specs.Prelude.{◌≡◌, ◌≢◌, ℕ, ◌≤◌, List, slice_index_or, true}
use Rattle.owner_graph.specs.declared.holding.Holding.{Holding}
use Rattle.owner_graph.specs.Owners.{Owns}

abbrev pub at : List ℕ → ℕ → ℕ
at list index = slice_index_or list index 0

-- each owner is on a vertex, and from one vertex to another the ranks never fall
abbrev pub AreRanked : List Holding → List ℕ → Type 0
AreRanked hs ranks = (a b : ℕ) → Owns hs a b → (b ≢ 0) × (a ≢ 0 → at ranks a ≤ at ranks b)

-- an owner within vertices of one label, or a step from 0 to a vertex that is its own label, or
-- back
pub data InnerStep (hs : List Holding) (labels : List ℕ) (a b : ℕ) : Type 0 where
  Down : a ≡ 0 → b ≢ 0 → at labels b ≡ b → InnerStep hs labels a b
  Up : a ≢ 0 → b ≡ 0 → at labels a ≡ a → InnerStep hs labels a b
  Within : a ≢ 0 → b ≢ 0 → at labels a ≡ at labels b → Owns hs a b → InnerStep hs labels a b

-- an owner, as a step from one vertex to another
abbrev pub step : ℕ → ℕ → Holding
step a b = record { from = a; to = b; slot = 0; label = 0; is_owner = true }

-- all that owns there is such a step
abbrev pub AreInner : List Holding → List ℕ → List Holding → Type 0
AreInner hs labels steps = (a b : ℕ) → Owns steps a b → InnerStep hs labels a b

-- where a handle is an owner, it is on a vertex, whose rank is no less than that of the vertex
-- where it is
abbrev pub IsRanked : List ℕ → Holding → Type 0
IsRanked ranks h =
    h.is_owner ≡ true → (h.to ≢ 0)
    × (h.from ≢ 0 → at ranks h.from ≤ at ranks h.to)

-- the label of each vertex, from 1, is one, and no greater
abbrev pub AreLow : ℕ → List ℕ → Type 0
AreLow vertices labels = (b : ℕ) → 1 ≤ b → b ≤ vertices → (1 ≤ at labels b) × (at labels b ≤ b)
