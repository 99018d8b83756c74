use Rattle.std.proofs.Common.{[], ◌∷◌, string_bytes}
use Rattle.owner_text.specs.Drawing.{box_text, root_edge_text}
use Rattle.owner_text.proofs.LineLemmas.{lines_then}
use Rattle.owner_text.proofs.drawing.put_root.Goals as goal

pub returns : goal.returns
returns c =
    lines_then (box_text c.args.slot c.args.label.now ∷ [])
    (root_edge_text c.args.slot c.args.to ∷ []) (string_bytes c.args.text.now)
    (string_bytes c.put_box.new.text) (string_bytes c.put_root_edge.new.text)
    c.in_ok-put_box.ensures c.in_ok-put_root_edge.ensures
