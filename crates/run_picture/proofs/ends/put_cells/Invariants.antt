use Rattle.std.proofs.Common.{take}
use Rattle.std.specs.Prelude.{string_bytes}
use Rattle.std.specs.List.{flat_map}
use Rattle.run_picture.specs.Elements.{Shows}
use Rattle.run_picture.specs.Shown.{cell_words}
use Rattle.run_picture.proofs.ends.put_cells.Given as goal

abbrev pub invariant-loop-index : goal.invariant-loop-index
invariant-loop-index l =
    Shows (string_bytes l.fn.text) (string_bytes l.text)
    (flat_map (cell_words l.shared) (take l.index l.lanes.cells.items))
