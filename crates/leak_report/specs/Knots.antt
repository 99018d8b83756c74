-- The lines of leaked blocks that own each other in a circle, each without its line feed. All of it is own.
use Rattle.std.specs.Prelude.{ℕ, ◌==◌, Bool, cond, List, [], ◌∷◌, ◌++◌, codes}
use Rattle.leak_report.specs.Prelude.{at, Findings, flat_map, from, Holding, knot_ties, marked}
use Rattle.leak_report.specs.Cells.{block_cell_text}

-- an owner's cell, after a space
abbrev pub owner_cell_text : ℕ → Holding → List ℕ
owner_cell_text shared h = codes " " ++ block_cell_text shared h

-- the owners that tie a knot
abbrev pub cycle_text : ℕ → List Holding → List ℕ
cycle_text shared ties = codes "cycle" ++ flat_map (owner_cell_text shared) ties

-- one of them, where it is a cut
abbrev pub cut_text : ℕ → Holding → List ℕ
cut_text shared h = codes "cut" ++ owner_cell_text shared h

abbrev pub cut_lines : List Bool → ℕ → Holding → List (List ℕ)
cut_lines cuts shared h = cond (marked cuts h.slot) (cut_text shared h ∷ []) []

-- a knot, where something ties it
abbrev pub tied_lines : List Bool → ℕ → List Holding → List (List ℕ)
tied_lines cuts shared [] = []
tied_lines cuts shared (t ∷ ts) =
    cycle_text shared (t ∷ ts) ∷ flat_map (cut_lines cuts shared) (t ∷ ts)

-- the knot with this least block
abbrev pub knot_lines : ℕ → Findings → List Holding → ℕ → ℕ → List (List ℕ)
knot_lines shared f hs blocks least =
    cond (at f.knots.items least == least)
    (tied_lines f.cuts.items shared (knot_ties f.kept.items f.knots.items blocks hs least)) []

-- of so many numbers, all knots, in the order of their least blocks
abbrev pub all_knots : ℕ → Findings → List Holding → ℕ → ℕ → List (List ℕ)
all_knots shared f hs blocks numbers =
    flat_map (knot_lines shared f hs blocks) (from 1 numbers)
