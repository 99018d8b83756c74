-- Circles: knots each of whose vertices has just one owner that counts. All of it is own.
use Rattle.std.specs.Prelude.{◌≡◌, ◌≢◌, ℕ, ◌≤◌, true, List, Bool}
use Rattle.owner_graph.specs.declared.circles.Circles.{Circles}
use Rattle.owner_graph.specs.declared.holding.Holding.{Holding}
use Rattle.owner_graph.specs.Fed.{marked}
use Rattle.owner_graph.specs.Labels.{at}

-- the handle is at the place that is recorded for vertex b
abbrev pub IsPlace : Circles → ℕ → Holding → Type 0
IsPlace c b h = (h.from ≡ at c.sources.items b) × (h.slot ≡ at c.slots.items b)

-- an owner is on a vertex; and where it is in one that stays, and on one of a circle, at the place
-- that is recorded for that
abbrev pub IsLinked : List Bool → List ℕ → Circles → Holding → Type 0
IsLinked stays knots c h =
    h.is_owner ≡ true → (h.to ≢ 0)
    × (marked stays h.from ≡ true → marked c.are.items (at knots h.to) ≡ true → IsPlace c h.to h)

-- an owner is recorded within a circle: at the place that is recorded for a vertex of its knot
abbrev pub IsOnCircle : ℕ → List ℕ → Circles → Holding → Type 0
IsOnCircle vertices knots c t =
    let b = at c.targets.items t.from in
    (1 ≤ b) × (b ≤ vertices) × (at knots b ≡ t.to) × (marked c.are.items t.to ≡ true)
    × IsPlace c b t
