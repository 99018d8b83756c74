-- How the place of a handle is written. All of it is own.
use Rattle.std.specs.Prelude.{ℕ, ◌-◌, cond, List, ◌++◌, nat_lt, ◌==◌, codes, decimal}
use Rattle.leak_report.specs.Prelude.{Holding, member_text}

-- a free cell's word in a script; the first so many are shared
abbrev pub free_cell_text : ℕ → ℕ → List ℕ
free_cell_text shared n = cond (nat_lt n shared) (codes "s" ++ decimal n) (codes "w" ++ decimal (n - shared))

-- a cell's word in a script, but for the block in place of a name before the dot
abbrev pub block_cell_text : ℕ → Holding → List ℕ
block_cell_text shared h =
    cond (h.from == 0) (free_cell_text shared h.label) (decimal h.from ++ codes "." ++ member_text h.label)
