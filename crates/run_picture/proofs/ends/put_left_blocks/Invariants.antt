use Rattle.std.proofs.Common.{take}
use Rattle.std.specs.Prelude.{string_bytes}
use Rattle.std.specs.List.{flat_map}
use Rattle.run_picture.specs.Elements.{Shows}
use Rattle.run_picture.specs.Shown.{left_block_words}
use Rattle.run_picture.proofs.ends.put_left_blocks.Given as goal

abbrev pub invariant-loop-block : goal.invariant-loop-block
invariant-loop-block l =
    Shows (string_bytes l.fn.text) (string_bytes l.text)
    (flat_map left_block_words (take l.block-index l.blocks))
