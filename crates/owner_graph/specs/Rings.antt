-- Rings: vertices of a knot that stay without any owner but some. All of it is own.
use Rattle.std.specs.Prelude.{◌≡◌, ◌≢◌, ◌⊎◌, ℕ, ◌<◌, ◌≤◌, true, Bool, List, length}
use Rattle.owner_graph.specs.declared.holding.Holding.{Holding}
use Rattle.owner_graph.specs.declared.index.Index.{Index}
use Rattle.owner_graph.specs.declared.rings.Ring.{Ring}
use Rattle.owner_graph.specs.Fed.{marked}
use Rattle.owner_graph.specs.Labels.{at}
use Rattle.owner_graph.specs.Rows.{handle_listed, row_at}

-- the handle is at the place that is recorded for vertex b
abbrev pub IsRingPlace : Ring → ℕ → Holding → Type 0
IsRingPlace r b h = (h.from ≡ at r.sources.items b) × (h.slot ≡ at r.slots.items b)

-- the owner on vertex b is at that place; and in another vertex of the ring, in which no other
-- place is recorded, or in one of another knot that stays
abbrev pub HoldsRing : List Bool → List ℕ → Ring → ℕ → Holding → Type 0
HoldsRing stays knots r b h =
    (h.is_owner ≡ true) × IsRingPlace r b h
    × (((at knots h.from ≡ at knots b) × (0 < at r.sources.items h.from)
    × (at r.targets.items h.from ≡ b)) ⊎ ((at knots h.from ≢ at knots b)
    × (marked stays h.from ≡ true)))

-- one of them is
unfoldable pub HasRingHolder : List Bool → List ℕ → Ring → ℕ → List Holding → Type 0
HasRingHolder stays knots r b hs =
    (i : ℕ) × (i < length hs) × HoldsRing stays knots r b (handle_listed hs i)

-- it is so of a vertex for which a place is recorded
abbrev pub IsHeld : Index → List ℕ → Ring → ℕ → Type 0
IsHeld index knots r b =
    0 < at r.sources.items b
    → HasRingHolder index.stays.items knots r b (row_at index.rows.items b)

abbrev pub IsRing : ℕ → Index → List ℕ → Ring → Type 0
IsRing vertices index knots r = (b : ℕ) → 1 ≤ b → b ≤ vertices → IsHeld index knots r b

-- a vertex of the tie's knot is in the ring, and no place is recorded where the tie is
abbrev pub IsBeside : ℕ → List ℕ → Ring → Holding → Type 0
IsBeside vertices knots r t =
    let first = at r.firsts.items t.to in
    (1 ≤ first) × (first ≤ vertices) × (at knots first ≡ t.to) × (0 < at r.sources.items first)
    × (IsRingPlace r (at r.targets.items t.from) t → ⊥)
