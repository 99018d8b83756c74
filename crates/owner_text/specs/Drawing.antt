-- A graph of owners for Graphviz, line by line, each without its line feed. All of it is own.
use Rattle.std.specs.Prelude.{ℕ, Bool, cond, ◌||◌, List, [], ◌∷◌, ◌++◌, ◌==◌, codes, decimal}
use Rattle.owner_text.specs.Prelude.{color_text, Findings, flat_map, has_tie, Holding, is_tie}
use Rattle.owner_text.specs.Prelude.{marked, style_text, tie_text}
use Rattle.std.specs.Char.{encode_utf8}
use Rattle.owner_text.specs.Drafts.{Draft, is_object}
use Rattle.owner_text.specs.Labels.{label_text}
use Rattle.owner_text.specs.Lines.{lines_to, object_label, vertices_of}

-- a byte as it stands between quotes: a quote and a backslash after a backslash
abbrev pub quoted_byte : ℕ → List ℕ
quoted_byte b = cond (b == 34 || b == 92) (codes "\\") [] ++ encode_utf8 b

abbrev pub quoted : List ℕ → List ℕ
quoted label = flat_map quoted_byte label

-- the color of an object: one that has ended is told in grey
abbrev pub object_color : Bool → Bool → Bool → List ℕ
object_color is_kept stays is_tied =
    cond (is_kept || stays) (color_text is_kept is_tied) (codes "white, fontcolor=grey")

abbrev pub node_text : ℕ → List ℕ → List ℕ → List ℕ
node_text number label color =
    codes "o" ++ decimal number ++ codes " [label=\"" ++ decimal number ++ codes " " ++ quoted label
    ++ codes "\", fillcolor="
    ++ color ++ codes "];"

-- an object, where there is one
abbrev pub node_lines : Draft → Findings → ℕ → List (List ℕ)
node_lines d f number =
    cond (is_object d.objects number)
    (node_text number (object_label d number)
    (object_color (marked f.kept.items number) (marked f.index.stays.items number)
    (has_tie f d.handles number)) ∷ []) []

abbrev pub box_text : ℕ → List ℕ → List ℕ
box_text slot label =
    codes "r" ++ decimal slot ++ codes " [shape=box, label=\"" ++ quoted label ++ codes "\"];"

abbrev pub root_edge_text : ℕ → ℕ → List ℕ
root_edge_text slot to =
    codes "r" ++ decimal slot ++ codes " -> o" ++ decimal to ++ codes " [style=solid];"

-- something that is no object, as a box, and its handle
abbrev pub root_lines : ℕ → ℕ → List ℕ → List (List ℕ)
root_lines slot to label = box_text slot label ∷ root_edge_text slot to ∷ []

-- a handle in an object
abbrev pub edge_text : ℕ → ℕ → List ℕ → List ℕ → List ℕ → List ℕ
edge_text from to label style color =
    codes "o" ++ decimal from ++ codes " -> o" ++ decimal to ++ codes " [label=\" " ++ quoted label
    ++ codes "\", style="
    ++ style ++ color ++ codes "];"

-- a handle
abbrev pub edge_lines : Draft → Findings → Holding → List (List ℕ)
edge_lines d f h =
    cond (h.from == 0) (root_lines h.slot h.to (label_text d.labels h.label))
    (edge_text h.from h.to (label_text d.labels h.label)
    (style_text h.is_owner (marked f.cuts.items h.slot))
    (tie_text (is_tie f.kept.items f.knots.items h)) ∷ [])

-- how the drawing begins
abbrev pub head_lines : List (List ℕ)
head_lines = codes "digraph owners {" ∷ codes "node [style=filled, fillcolor=white];" ∷ []

-- all lines of a graph of which this was found
abbrev pub graph_lines : Draft → Findings → List (List ℕ)
graph_lines d f =
    head_lines ++ lines_to (node_lines d f) (vertices_of d) ++ flat_map (edge_lines d f) d.handles
    ++ codes "}" ∷ []
