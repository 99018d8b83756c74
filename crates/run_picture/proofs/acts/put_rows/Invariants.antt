use Rattle.std.proofs.Common.{take}
use Rattle.std.specs.Prelude.{string_bytes}
use Rattle.std.specs.List.{flat_map}
use Rattle.run_picture.specs.Elements.{Shows}
use Rattle.run_picture.specs.Shown.{row_words}
use Rattle.run_picture.proofs.acts.put_rows.Given as goal

abbrev pub invariant-loop-row : goal.invariant-loop-row
invariant-loop-row l =
    Shows (string_bytes l.fn.text) (string_bytes l.text)
    (flat_map row_words (take l.row-index l.rows))
