use Rattle.std.proofs.Common.{[], ◌∷◌}
use Rattle.std.specs.Prelude.{string_bytes}
use Rattle.std.specs.List.{flat_map}
use Rattle.run_picture.specs.Shown.{left_block_words}
use Rattle.run_picture.proofs.Showing.{shows_is, shows_list, shows_then}
use Rattle.run_picture.proofs.ends.put_end.Goals as goal

pub returns : goal.returns
returns c =
    let left = c.args.left.now in
    let t0 = string_bytes c.args.text.now in
    let t1 = string_bytes c.put_left_blocks.new.text in
    let t2 = string_bytes c.put_words.new.text in
    shows_then t0 t1 t2 (flat_map left_block_words left.blocks.items)
    (string_bytes left.totals ∷ [])
    (shows_list left_block_words c.as_slice.result.now left.blocks.items t0 t1
    c.as_slice.ensures.value c.in_ok-put_left_blocks.ensures)
    (shows_is t1 t2 c.as_bytes.result.now (string_bytes left.totals) c.as_bytes.ensures.value
    c.in_ok-put_words.ensures)
