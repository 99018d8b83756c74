-- Owners as edges from vertex to vertex. All of it is own.
use Rattle.std.specs.Prelude.{ℕ, ◌+◌, cond, Bool, List, [], ◌∷◌}
use Rattle.std.specs.List.{flat_map}
use Rattle.owner_graph.specs.declared.directed_graph.graph.Edge.{Edge}
use Rattle.owner_graph.specs.Paths.{HasRows, MarksReached, Rows}
use Rattle.owner_graph.specs.declared.holding.Holding.{Holding}

abbrev pub edge_of : Holding → Edge
edge_of h = record { from = h.from; to = h.to }

-- one for an owner, and none for a weak handle
abbrev pub edges_by : Holding → List Edge
edges_by h = cond h.is_owner (edge_of h ∷ []) []

abbrev pub owner_edges : List Holding → List Edge
owner_edges hs = flat_map edges_by hs

-- each edge the other way round
abbrev pub back : Edge → List Edge
back e = record { from = e.to; to = e.from } ∷ []

abbrev pub back_edges : List Edge → List Edge
back_edges es = flat_map back es

-- just the vertices are marked to which edges lead from one
pub record MarksLed (vertices : ℕ) (es : List Edge) (vertex : ℕ) (marked : List Bool) : Type 0 where
  pub graph : Rows
  pub rows : HasRows (vertices + 1) es graph
  pub marks : MarksReached graph vertex marked
