-- What is looked up once of a graph of owners. All of it is own.
use Rattle.std.specs.Prelude.{◌≡◌, ◌↔◌, ℕ, ◌≤◌, false, List}
use Rattle.owner_graph.specs.declared.holding.Holding.{Holding}
use Rattle.owner_graph.specs.declared.index.Index.{Index}
use Rattle.owner_graph.specs.Ends.{EndsWithOwners}
use Rattle.owner_graph.specs.Fed.{marked}
use Rattle.owner_graph.specs.Members.{homes}
use Rattle.owner_graph.specs.Rows.{held_on, row_at}

-- of each vertex the handles on it, and whether it stays; and the vertices of each knot
pub record IsIndex (vertices : ℕ) (hs : List Holding) (knots : List ℕ)
    (index : Index) : Type 0 where
  pub rows : (b : ℕ) → row_at index.rows.items b ≡ held_on hs b
  pub members : (k : ℕ) → row_at index.members.items k ≡ held_on (homes knots vertices) k
  pub stays : (b : ℕ) → b ≤ vertices → marked index.stays.items b ≡ false ↔ EndsWithOwners hs b
