-- How Graphviz draws what was found of a graph of owners. All of it is own.
use Rattle.std.specs.Prelude.{ℕ, Bool, cond, List, [], codes}
use Rattle.std.specs.List.{list_any}
use Rattle.owner_graph.specs.Rows.{held_in}
use Rattle.owner_graph.specs.Ties.{is_tie}
use Rattle.owner_graph.specs.declared.findings.Findings.{Findings}
use Rattle.owner_graph.specs.declared.holding.Holding.{Holding}

-- the color of a vertex: whether it is kept, and else whether something ties its knot
abbrev pub color_text : Bool → Bool → List ℕ
color_text is_kept is_tied =
    cond is_kept (codes "white") (cond is_tied (codes "orange") (codes "lightgrey"))

-- a handle in the vertex ties its knot
abbrev pub has_tie : Findings → List Holding → ℕ → Bool
has_tie f hs vertex = list_any (is_tie f.kept.items f.knots.items) (held_in hs vertex)

-- an owner is a full line, a bold one where it cuts its knot, and a weak handle a dashed one
abbrev pub style_text : Bool → Bool → List ℕ
style_text is_owner is_cut =
    cond is_owner (cond is_cut (codes "bold") (codes "solid")) (codes "dashed")

-- what ties a knot is red
abbrev pub tie_text : Bool → List ℕ
tie_text is_tie = cond is_tie (codes ", color=red") []
