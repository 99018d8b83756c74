use Rattle.std.proofs.Common.{take}
use Rattle.std.specs.Prelude.{string_bytes}
use Rattle.std.specs.List.{flat_map}
use Rattle.run_picture.specs.Elements.{Shows}
use Rattle.run_picture.specs.Shown.{change_words}
use Rattle.run_picture.proofs.changes.put_changes.Given as goal

abbrev pub invariant-loop-change : goal.invariant-loop-change
invariant-loop-change l =
    Shows (string_bytes l.fn.text) (string_bytes l.text)
    (flat_map change_words (take l.change-index l.changes))
