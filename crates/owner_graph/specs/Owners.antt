-- Handles between vertices, and the paths of owners. All of it is own.
use Rattle.std.specs.Prelude.{◌≡◌, ◌⊎◌, ℕ, ◌≤◌, true, List, [], ◌∷◌}
use Rattle.owner_graph.specs.declared.holding.Holding.{Holding}

-- an owner in a is on b; 0 is no object, and stands for what holds objects from outside
abbrev pub Owns : List Holding → ℕ → ℕ → Type 0
Owns [] a b = ⊥
Owns (h ∷ hs) a b = ((h.is_owner ≡ true) × (h.from ≡ a) × (h.to ≡ b)) ⊎ Owns hs a b

-- owners lead from a by these vertices, one after another, to b, which is the last of them
abbrev pub IsOwnerPath : List Holding → ℕ → List ℕ → ℕ → Type 0
IsOwnerPath hs a [] b = a ≡ b
IsOwnerPath hs a (x ∷ xs) b = Owns hs a x × IsOwnerPath hs x xs b

-- a path of owners leads from a to b
abbrev pub OwnersLead : List Holding → ℕ → ℕ → Type 0
OwnersLead hs a b = (path : List ℕ) × IsOwnerPath hs a path b

-- one leads to the vertex from outside
abbrev pub IsKept : List Holding → ℕ → Type 0
IsKept hs b = OwnersLead hs 0 b

-- the vertices where a handle is, and that it is on, are among so many
abbrev pub IsAmong : ℕ → Holding → Type 0
IsAmong vertices h = (h.from ≤ vertices) × (h.to ≤ vertices)
