-- The graph of what is left, line after line.
use Rattle.std.proofs.Common.{◌≡◌, ℕ, List, [], ◌∷◌, ◌++◌, codes, Some, Option, refl, sym, ap, ◌∙◌}
use Rattle.leak_report.proofs.Prelude.{AbstractState, all_nodes, color_at, edge_lines, ended, Findings}
use Rattle.leak_report.proofs.Prelude.{flat_map, held_at, head_lines, Holding, lines_then, node_lines}
use Rattle.leak_report.proofs.Prelude.{State, state_in}
use Rattle.step_core.specs.Totals.{fields_of}
use Rattle.leak_report.specs.Graph.{graph_lines, node_if, node_text}

-- a block's node
pub node_then : (s : State) (f : Findings) (hs : List Holding) (number : ℕ) (fields color a b : List ℕ)
    → Some fields ≡ fields_of s number → color ≡ color_at f hs number
    → b ≡ a ++ ended (node_text number fields color ∷ []) → b ≡ a ++ ended (node_lines s f hs number)
node_then s f hs number fields color a b some is p =
    p
    ∙ ap (λ (t : List ℕ). a ++ ended (node_if number t (Some fields))) is
    ∙ ap (λ (o : Option (List ℕ)). a ++ ended (node_if number (color_at f hs number) o)) some

-- the head, the nodes, the lines of handles, and the end
pub graph_then : (u : AbstractState) (f : Findings) (held : List Holding) (shared blocks : ℕ)
    (b c d e : List ℕ) → shared ≡ u.extent.shape.shared_cells → blocks ≡ u.extent.shape.blocks
    → held ≡ held_at u → b ≡ [] ++ ended head_lines → c ≡ b ++ ended (all_nodes (state_in u) f held blocks)
    → d ≡ c ++ ended (flat_map (edge_lines shared f) held) → e ≡ d ++ ended (codes "}" ∷ [])
    → e ≡ ended (graph_lines f u)
graph_then u f held shared blocks b c d e few all is p q r t =
    lines_then (drawn shared held blocks) (codes "}" ∷ []) [] d e
    (lines_then (head_lines ++ nodes held blocks) (lines shared held) [] c d
    (lines_then head_lines (nodes held blocks) [] b c p q) r) t
    ∙ ap (λ (n : ℕ). text n held blocks) few
    ∙ ap (λ (n : ℕ). text u.extent.shape.shared_cells held n) all
    ∙ ap (λ (l : List Holding). text u.extent.shape.shared_cells l u.extent.shape.blocks) is
  where
    nodes : List Holding → ℕ → List (List ℕ)
    nodes l n = all_nodes (state_in u) f l n

    lines : ℕ → List Holding → List (List ℕ)
    lines n l = flat_map (edge_lines n f) l

    drawn : ℕ → List Holding → ℕ → List (List ℕ)
    drawn n l m = (head_lines ++ nodes l m) ++ lines n l

    text : ℕ → List Holding → ℕ → List ℕ
    text n l m = ended (drawn n l m ++ codes "}" ∷ [])
