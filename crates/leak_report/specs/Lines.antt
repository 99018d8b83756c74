-- The lines that tell what is left, each without its line feed. All of it is own.
use Rattle.std.specs.Prelude.{ℕ, Bool, false, cond, List, [], ◌∷◌, ◌++◌, slice_index_or, Some}
use Rattle.std.specs.Prelude.{None, codes, Option}
use Rattle.leak_report.specs.Prelude.{AbstractState, census_of, Counts, ended_in, Findings, flat_map}
use Rattle.leak_report.specs.Prelude.{from, held_on, Holding, made_in, State, state_in, totals_text}
use Rattle.script_stepper.specs.Lines.{block_text}
use Rattle.leak_report.specs.Cells.{block_cell_text}
use Rattle.leak_report.specs.Findings.{held_at}
use Rattle.leak_report.specs.Knots.{all_knots}

abbrev pub kind_text : Bool → List ℕ
kind_text is_owner = cond is_owner (codes "owner") (codes "weak")

-- a handle, by where it is
abbrev pub holder_text : ℕ → Holding → List ℕ
holder_text shared h = codes "  " ++ kind_text h.is_owner ++ codes " in " ++ block_cell_text shared h

abbrev pub holder_lines : ℕ → Holding → List (List ℕ)
holder_lines shared h = holder_text shared h ∷ []

abbrev pub kept_text : Bool → List ℕ
kept_text is_kept = cond is_kept (codes "kept") (codes "leaked")

-- the line of a block in the census, and whether it is kept
abbrev pub left_text : ℕ → Counts → Bool → List ℕ
left_text block counts is_kept = block_text block counts ++ codes " " ++ kept_text is_kept

-- under it each handle on the block, in the order of the cells
abbrev pub held_lines : ℕ → List Holding → List Bool → ℕ → Counts → List (List ℕ)
held_lines shared hs kept block counts =
    left_text block counts (slice_index_or kept block false) ∷ flat_map (holder_lines shared) (held_on hs block)

abbrev pub held_lines_if : ℕ → List Holding → List Bool → ℕ → Option Counts → List (List ℕ)
held_lines_if shared hs kept block None = []
held_lines_if shared hs kept block (Some counts) = held_lines shared hs kept block counts

-- of a block that isn't vacant
abbrev pub left_lines : ℕ → List Holding → List Bool → State → ℕ → List (List ℕ)
left_lines shared hs kept s block = held_lines_if shared hs kept block (census_of s block)

-- of all blocks, in order
abbrev pub listing : ℕ → List Holding → List Bool → ℕ → State → List (List ℕ)
listing shared hs kept blocks s = flat_map (left_lines shared hs kept s) (from 1 blocks)

-- all lines of what is left at a scene, where this was found
abbrev pub all_lines : Findings → AbstractState → List (List ℕ)
all_lines f c =
    listing c.extent.shape.shared_cells (held_at c) f.kept.items c.extent.shape.blocks (state_in c)
    ++ all_knots c.extent.shape.shared_cells f (held_at c) c.extent.shape.blocks c.extent.shape.blocks
    ++ totals_text (made_in c.history) (ended_in c.history) ∷ []
