use Rattle.std.proofs.Common.{◌≡◌, ◌++◌, take}
use Rattle.std.specs.Prelude.{string_bytes}
use Rattle.std.specs.List.{flat_map}
use Rattle.run_picture.specs.Pages.{left_block_line}
use Rattle.run_picture.proofs.run_lines.put_left_blocks.Given as goal

abbrev pub invariant-loop-left : goal.invariant-loop-left
invariant-loop-left l =
    string_bytes l.text ≡ string_bytes l.fn.text ++ flat_map left_block_line (take l.left-index l.blocks)
