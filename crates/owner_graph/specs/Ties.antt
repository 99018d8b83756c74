-- Owners that tie knots of leaked vertices, and those of them that cut one. All of it is own.
use Rattle.std.specs.Prelude.{◌≡◌, ℕ, ◌≤◌, ◌==◌, ◌&&◌, Bool, cond, not, List, [], ◌∷◌, nat_lt}
use Rattle.std.specs.List.{flat_map}
use Rattle.owner_graph.specs.declared.holding.Holding.{Holding}
use Rattle.owner_graph.specs.Ends.{EndsWhenCut}
use Rattle.owner_graph.specs.Fed.{marked}
use Rattle.owner_graph.specs.Labels.{at}

-- the handle is an owner in a vertex that isn't kept, and on a vertex of the same knot
abbrev pub is_tie : List Bool → List ℕ → Holding → Bool
is_tie kept knots h =
    h.is_owner && nat_lt 0 h.from && not (marked kept h.from)
    && at knots h.from == at knots h.to

-- it, but on the least vertex of that knot
abbrev pub tie : List ℕ → Holding → Holding
tie knots h = record {
  from = h.from;
  to = at knots h.from;
  slot = h.slot;
  label = h.label;
  is_owner = h.is_owner;
}

abbrev pub ties_by : List Bool → List ℕ → Holding → List Holding
ties_by kept knots h = cond (is_tie kept knots h) (tie knots h ∷ []) []

-- all such owners, in order
abbrev pub ties : List Bool → List ℕ → List Holding → List Holding
ties kept knots hs = flat_map (ties_by kept knots) hs

-- it is in a vertex, and on the least one of its knot
abbrev pub IsTied : List ℕ → Holding → Type 0
IsTied knots t = (1 ≤ t.from) × (at knots t.from ≡ t.to)

-- of ties, in order, just those that are cuts
pub data AreCuts (vertices : ℕ) (hs : List Holding) : List Holding → List Holding → Type 0 where
  NoTies : AreCuts vertices hs [] []
  OneCut : (t : Holding) (ts cs : List Holding) → EndsWhenCut vertices hs t.to t
      → AreCuts vertices hs ts cs → AreCuts vertices hs (t ∷ ts) (t ∷ cs)
  NoCut : (t : Holding) (ts cs : List Holding) → (EndsWhenCut vertices hs t.to t → ⊥)
      → AreCuts vertices hs ts cs → AreCuts vertices hs (t ∷ ts) cs
