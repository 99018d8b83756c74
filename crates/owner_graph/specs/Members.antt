-- The vertices of knots. All of it is own.
use Rattle.std.specs.Prelude.{ℕ, zero, suc, ◌++◌, false, List, [], ◌∷◌}
use Rattle.owner_graph.specs.declared.holding.Holding.{Holding}
use Rattle.owner_graph.specs.Labels.{at}

-- a vertex, as a handle in it on the least of its knot
abbrev pub home : List ℕ → ℕ → Holding
home knots b = record { from = b; to = at knots b; slot = 0; label = 0; is_owner = false }

-- all vertices, from 1, so
abbrev pub homes : List ℕ → ℕ → List Holding
homes knots zero = []
homes knots (suc n) = homes knots n ++ home knots (suc n) ∷ []
