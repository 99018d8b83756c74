use Rattle.std.proofs.Common.{ℕ, List, ◌++◌, string_bytes, ap, ◌∙◌}
use Rattle.leak_report.proofs.Prelude.{ended, marked, style_text, tie_text}
use Rattle.leak_report.specs.Graph.{edge_by}
use Rattle.leak_report.proofs.graph.put_held.Goals as goal

pub returns : goal.returns
returns c =
    let f = c.args.found.now in
    let h = c.args.held in
    let old = string_bytes c.args.text.now in
    c.in_ok-put_edge.ensures
    ∙ ap (λ (t : List ℕ). old ++ ended (edge_by c.args.shared t c.tie_word-color.result.now h))
    (c.style_word-style.ensures ∙ ap (style_text h.is_owner) c.is_cut.ensures)
    ∙ ap (λ (t : List ℕ). old ++ ended (edge_by c.args.shared (style_text h.is_owner (marked f.cuts.items h.slot)) t h))
    (c.tie_word-color.ensures ∙ ap tie_text c.is_tie.ensures)
