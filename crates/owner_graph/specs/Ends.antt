-- What ends where some owners are weak. All of it is own.
use Rattle.std.specs.Prelude.{◌≢◌, ℕ, ◌≤◌, ◌==◌, ◌&&◌, ◌||◌, Bool, cond, false, List, []}
use Rattle.std.specs.Prelude.{◌∷◌, nat_lt, slice_index_or}
use Rattle.owner_graph.specs.declared.holding.Holding.{Holding}
use Rattle.owner_graph.specs.declared.weakening.Weakening.{Weakening}
use Rattle.owner_graph.specs.declared.weakening.Weakening.TheVariants.{Labelled, Nobody, One}
use Rattle.owner_graph.specs.Owners.{Owns}
use Rattle.owner_graph.specs.Knots.{KeepEachOther}

-- a vertex ends where each owner of it is in a vertex that ends. What is outside never does
pub data EndsWithOwners (hs : List Holding) : ℕ → Type 0 where
  Ended : (b : ℕ) → b ≢ 0 → ((a : ℕ) → Owns hs a b → EndsWithOwners hs a) → EndsWithOwners hs b

-- two handles are at one place
abbrev pub same_place : Holding → Holding → Bool
same_place g h = g.from == h.from && g.slot == h.slot

-- the handle is to be weak: none is, or the one at a place, or those in a knot that have one of two
-- labels
abbrev pub is_weakened : List ℕ → Weakening → Holding → Bool
is_weakened knots Nobody h = false
is_weakened knots (One g) h = same_place h g
is_weakened knots (Labelled least first second) h =
    nat_lt 0 h.from && slice_index_or knots h.from 0 == least
    && (h.label == first || h.label == second)

-- the handles that are not among some
abbrev pub without : (Holding → Bool) → List Holding → List Holding
without gone [] = []
without gone (h ∷ hs) = cond (gone h) (without gone hs) (h ∷ without gone hs)

-- without those, each vertex of the knot of b ends
abbrev pub EndsWithout : ℕ → List Holding → (Holding → Bool) → ℕ → Type 0
EndsWithout vertices hs gone b = (a : ℕ) → 1 ≤ a → a ≤ vertices → KeepEachOther hs b a
    → EndsWithOwners (without gone hs) a

-- without the handle at a place
abbrev pub EndsWhenCut : ℕ → List Holding → ℕ → Holding → Type 0
EndsWhenCut vertices hs b g = EndsWithout vertices hs (λ h. same_place h g) b
