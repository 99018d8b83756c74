-- What is left as a graph for Graphviz, line by line, each without its line feed. All of it is own.
use Rattle.std.specs.Prelude.{ℕ, cond, List, [], ◌∷◌, ◌++◌, ◌==◌}
use Rattle.std.specs.Prelude.{slice_index, Some, None, codes, decimal, Option}
use Rattle.leak_report.specs.Prelude.{AbstractState, color_text, Findings, flat_map, from, has_tie}
use Rattle.leak_report.specs.Prelude.{Holding, is_tie, marked, member_text, State, state_in}
use Rattle.leak_report.specs.Prelude.{style_text, tie_text}
use Rattle.step_core.specs.Totals.{fields_of}
use Rattle.leak_report.specs.Cells.{free_cell_text}
use Rattle.leak_report.specs.Findings.{held_at}

abbrev pub fields_text : List ℕ → List ℕ
fields_text fields = decimal (slice_index fields 0) ++ codes " " ++ decimal (slice_index fields 1) ++ codes " "
    ++ decimal (slice_index fields 2) ++ codes " " ++ decimal (slice_index fields 3)

-- a block, with the fields of the object in it
abbrev pub node_text : ℕ → List ℕ → List ℕ → List ℕ
node_text block fields color =
    codes "b" ++ decimal block ++ codes " [label=\"block " ++ decimal block ++ codes "\\n" ++ fields_text fields
    ++ codes "\", fillcolor=" ++ color ++ codes "];"

abbrev pub node_if : ℕ → List ℕ → Option (List ℕ) → List (List ℕ)
node_if block color None = []
node_if block color (Some fields) = node_text block fields color ∷ []

-- the color of a block
abbrev pub color_at : Findings → List Holding → ℕ → List ℕ
color_at f hs block = color_text (marked f.kept.items block) (has_tie f hs block)

-- of a block that isn't vacant
abbrev pub node_lines : State → Findings → List Holding → ℕ → List (List ℕ)
node_lines s f hs block = node_if block (color_at f hs block) (fields_of s block)

-- of all blocks, in order
abbrev pub all_nodes : State → Findings → List Holding → ℕ → List (List ℕ)
all_nodes s f hs blocks = flat_map (node_lines s f hs) (from 1 blocks)

-- a free cell, and the line of the handle in it
abbrev pub box_text : ℕ → ℕ → List ℕ
box_text shared number = free_cell_text shared number ++ codes " [shape=box];"

abbrev pub free_text : ℕ → ℕ → ℕ → List ℕ → List ℕ
free_text shared number block style =
    free_cell_text shared number ++ codes " -> b" ++ decimal block ++ codes " [style=" ++ style ++ codes "];"

abbrev pub free_lines : ℕ → ℕ → ℕ → List ℕ → List (List ℕ)
free_lines shared number block style = box_text shared number ∷ [] ++ free_text shared number block style ∷ []

-- the line of a handle in a member
abbrev pub member_lines : ℕ → ℕ → ℕ → List ℕ → List ℕ → List (List ℕ)
member_lines from member block style color =
    (codes "b" ++ decimal from ++ codes " -> b" ++ decimal block ++ codes " [label=\" " ++ member_text member
    ++ codes "\", style=" ++ style ++ color ++ codes "];") ∷ []

abbrev pub edge_by : ℕ → List ℕ → List ℕ → Holding → List (List ℕ)
edge_by shared style color h =
    cond (h.from == 0) (free_lines shared h.label h.to style) (member_lines h.from h.label h.to style color)

-- a handle
abbrev pub edge_lines : ℕ → Findings → Holding → List (List ℕ)
edge_lines shared f h =
    edge_by shared (style_text h.is_owner (marked f.cuts.items h.slot))
    (tie_text (is_tie f.kept.items f.knots.items h)) h

-- how the graph begins
abbrev pub head_lines : List (List ℕ)
head_lines = codes "digraph left {" ∷ codes "node [style=filled, fillcolor=white];" ∷ []

-- all lines of the graph of what is left at a scene, where this was found
abbrev pub graph_lines : Findings → AbstractState → List (List ℕ)
graph_lines f c =
    head_lines ++ all_nodes (state_in c) f (held_at c) c.extent.shape.blocks
    ++ flat_map (edge_lines c.extent.shape.shared_cells f) (held_at c) ++ codes "}" ∷ []
