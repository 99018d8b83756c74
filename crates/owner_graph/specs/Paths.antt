-- Graphs, and the paths in them. All of it is own.
use Rattle.std.specs.Prelude.{◌≡◌, ◌↔◌, ◌⊎◌, ℕ, All, ◌==◌, ◌<◌, cond, Bool, true, false}
use Rattle.std.specs.Prelude.{List, [], ◌∷◌, length, slice_get, slice_index_or, Option, Some, None}
use Rattle.std.specs.Global.{Vec}
use Rattle.owner_graph.specs.declared.directed_graph.graph.Edge.{Edge}

-- of each vertex, from 0, those that its edges lead to
abbrev pub Rows : Type 0
Rows = List (Vec ℕ)

abbrev pub targets_in : Option (Vec ℕ) → List ℕ
targets_in None = []
targets_in (Some targets) = targets.items

abbrev pub targets : Rows → ℕ → List ℕ
targets g v = targets_in (slice_get g v)

abbrev pub HasVertex : ℕ → List ℕ → Type 0
HasVertex x [] = ⊥
HasVertex x (y ∷ ys) = (x ≡ y) ⊎ HasVertex x ys

-- an edge leads from v to w
abbrev pub IsEdge : Rows → ℕ → ℕ → Type 0
IsEdge g v w = HasVertex w (targets g v)

-- each edge leads to a vertex
abbrev pub IsGraph : Rows → Type 0
IsGraph g = (v w : ℕ) → IsEdge g v w → w < length g

-- from v by these vertices, one after another, to w, which is the last of them
abbrev pub IsPath : Rows → ℕ → List ℕ → ℕ → Type 0
IsPath g v [] w = v ≡ w
IsPath g v (x ∷ xs) w = IsEdge g v x × IsPath g x xs w

-- a path leads from v to w
abbrev pub Reaches : Rows → ℕ → ℕ → Type 0
Reaches g v w = (path : List ℕ) × IsPath g v path w

-- just the vertices are marked to which a path leads from the root
pub record MarksReached (g : Rows) (root : ℕ) (marked : List Bool) : Type 0 where
  pub size : length marked ≡ length g
  pub reached : (v : ℕ) → v < length g → slice_index_or marked v false ≡ true ↔ Reaches g root v

-- those to which the edges from v lead, in their order
abbrev pub leading : List Edge → ℕ → List ℕ
leading [] v = []
leading (e ∷ es) v = cond (e.from == v) (e.to ∷ leading es v) (leading es v)

-- the vertices have numbers below n, and the edge leads from one to one
abbrev pub IsEdgeWithin : ℕ → Edge → Type 0
IsEdgeWithin n e = (e.from < n) × (e.to < n)

abbrev pub AreWithin : ℕ → List Edge → Type 0
AreWithin n es = All (IsEdgeWithin n) es

-- the graph with n vertices and these edges
pub record HasRows (n : ℕ) (es : List Edge) (g : Rows) : Type 0 where
  pub size : length g ≡ n
  pub rows : (v : ℕ) → targets g v ≡ leading es v
