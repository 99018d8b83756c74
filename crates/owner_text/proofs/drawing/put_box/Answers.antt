use Rattle.std.proofs.Common.{◌++◌, string_bytes, codes, decimal}
use Rattle.owner_text.specs.Drawing.{quoted}
use Rattle.owner_text.proofs.LineLemmas.{line_then}
use Rattle.owner_text.proofs.drawing.put_box.Goals as goal

pub returns : goal.returns
returns c =
    line_then (codes "r" ++ decimal c.args.slot) (codes " [shape=box, label=\"")
    (quoted c.args.label.now) (codes "\"];")
    (string_bytes c.args.text.now) (string_bytes c.write.new.self) (string_bytes c.write-2.new.self)
    (string_bytes c.put_quoted.new.text)
    (string_bytes c.writeln.new.self) c.in_ok-write.ensures.bytes c.in_ok-write-2.ensures.bytes
    c.in_ok-put_quoted.ensures
    c.in_ok-writeln.ensures.bytes
