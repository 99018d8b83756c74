-- How a search marks vertices. All of it is own.
use Rattle.std.specs.Prelude.{ℕ, Bool, true, false, cond, List, [], ◌∷◌, ◌++◌, slice_index_or, slice_set}
use Rattle.owner_graph.specs.declared.directed_graph.search.Search.{Search}

-- the vertices that are marked, and those of them whose edges weren't followed yet
pub record Marks : Type 0 where
  pub marked : List Bool
  pub pending : List ℕ

abbrev pub is_marked : Marks → ℕ → Bool
is_marked m v = slice_index_or m.marked v false

abbrev pub marking : Marks → ℕ → Marks
marking m v = record { marked = slice_set m.marked v true; pending = m.pending ++ v ∷ [] }

-- a vertex is marked, if it wasn't yet
abbrev pub mark : Marks → ℕ → Marks
mark m v = cond (is_marked m v) m (marking m v)

-- one after another
abbrev pub mark_all : List ℕ → Marks → Marks
mark_all [] m = m
mark_all (v ∷ vs) m = mark_all vs (mark m v)

abbrev pub marks_of : Search → Marks
marks_of s = record { marked = s.marked.items; pending = s.pending.items }
