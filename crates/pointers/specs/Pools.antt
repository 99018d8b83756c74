-- Pools of free cells (own).
use Rattle.std.specs.Prelude.{ℕ, zero, suc, ◌+◌, min, List, [], ◌∷◌, ◌++◌}

-- so many cells, from that number on; none has a number above the largest of 32 bits
abbrev pub cells_from : {C : Type 0} → (ℕ → C) → ℕ → ℕ → List C
cells_from cell first zero = []
cells_from cell first (suc n) = cells_from cell first n ++ (cell (min (first + n) 4294967295) ∷ [])
