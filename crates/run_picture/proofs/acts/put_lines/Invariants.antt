use Rattle.std.proofs.Common.{take}
use Rattle.std.specs.Prelude.{string_bytes}
use Rattle.std.specs.List.{flat_map}
use Rattle.run_picture.specs.Elements.{Shows}
use Rattle.run_picture.specs.Shown.{line_words}
use Rattle.run_picture.proofs.acts.put_lines.Given as goal

abbrev pub invariant-loop-line : goal.invariant-loop-line
invariant-loop-line l =
    Shows (string_bytes l.fn.text) (string_bytes l.text)
    (flat_map line_words (take l.line-index l.lines))
