use Rattle.std.specs.Prelude.{string_bytes}
use Rattle.run_picture.specs.Shown.{left_block_words}
use Rattle.run_picture.proofs.Showing.{shows_after}
use Rattle.run_picture.proofs.ends.put_left_block.Goals as goal

pub returns : goal.returns
returns c =
    shows_after (string_bytes c.args.text.now) (string_bytes c.put_box.new.text)
    (string_bytes c.put_left.new.text) (left_block_words c.args.left.now) c.in_ok-put_box.ensures
    c.in_ok-put_left.ensures
