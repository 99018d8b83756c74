use Rattle.std.proofs.Common.{[], ◌∷◌, string_bytes}
use Rattle.leak_report.proofs.Prelude.{lines_then}
use Rattle.leak_report.specs.Graph.{box_text, free_text}
use Rattle.leak_report.proofs.graph.put_free_edge.Goals as goal

pub returns : goal.returns
returns c =
    lines_then (box_text c.args.shared c.args.number ∷ []) (free_text c.args.shared c.args.number c.args.block c.args.style.now ∷ [])
    (string_bytes c.args.text.now) (string_bytes c.put_box.new.text) (string_bytes c.put_from_box.new.text) c.in_ok-put_box.ensures
    c.in_ok-put_from_box.ensures
