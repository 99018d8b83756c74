-- What is held, by the vertex that it is on. All of it is own.
use Rattle.std.specs.Prelude.{ℕ, ◌==◌, cond, false, List, [], ◌∷◌, get_or}
use Rattle.std.specs.Prelude.{Option, Some, None, slice_get}
use Rattle.std.specs.Global.{Vec}
use Rattle.owner_graph.specs.declared.holding.Holding.{Holding}

-- what is on a vertex, in the order of the list
abbrev pub held_on : List Holding → ℕ → List Holding
held_on [] b = []
held_on (h ∷ hs) b = cond (h.to == b) (h ∷ held_on hs b) (held_on hs b)

abbrev pub row_in : Option (Vec Holding) → List Holding
row_in None = []
row_in (Some row) = row.items

-- the list with a vertex's number; none where there are fewer
abbrev pub row_at : List (Vec Holding) → ℕ → List Holding
row_at rows b = row_in (slice_get rows b)

-- what is in a vertex, in the order of the list
abbrev pub held_in : List Holding → ℕ → List Holding
held_in [] b = []
held_in (h ∷ hs) b = cond (h.from == b) (h ∷ held_in hs b) (held_in hs b)

abbrev pub no_handle : Holding
no_handle = record { from = 0; to = 0; slot = 0; label = 0; is_owner = false }

-- the handle at a place of a list
abbrev pub handle_listed : List Holding → ℕ → Holding
handle_listed hs i = get_or hs i no_handle
