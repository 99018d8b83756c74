use Rattle.std.specs.Prelude.{string_bytes}
use Rattle.run_picture.specs.Shown.{left_block_words}
use Rattle.run_picture.proofs.Showing.{shows_more, shows_none}
use Rattle.run_picture.proofs.ends.put_left_blocks.Goals as goal

pub loop-block-init : goal.loop-block-init
loop-block-init c = shows_none (string_bytes c.args.text.now)

pub loop-block-preserved : goal.loop-block-preserved
loop-block-preserved c =
    shows_more left_block_words c.args.blocks.now c.loop-block.block-index _
    (string_bytes c.args.text.now) (string_bytes c.loop-block.text)
    (string_bytes c.put_left_block.new.text) c.loop-block-test.true
    c.loop-block.invariant c.in_ok-put_left_block.ensures
