use Rattle.std.proofs.Common.{ℕ, List, [], ◌∷◌, ◌++◌, string_bytes, codes, sym, ap, ◌∙◌}
use Rattle.std.proofs.Common.{append_assoc}
use Rattle.leak_report.specs.Cells.{free_cell_text}
use Rattle.leak_report.proofs.graph.put_box.Goals as goal

pub returns : goal.returns
returns c =
    let old = string_bytes c.args.text.now in
    let cell = free_cell_text c.args.shared c.args.number in
    c.in_ok-writeln.ensures.bytes
    ∙ ap (λ (t : List ℕ). t ++ codes " [shape=box];\n") c.in_ok-put_free.ensures
    ∙ append_assoc old cell (codes " [shape=box];\n")
    ∙ sym (ap (λ (t : List ℕ). old ++ t) (append_assoc cell (codes " [shape=box];") (10 ∷ [])))
