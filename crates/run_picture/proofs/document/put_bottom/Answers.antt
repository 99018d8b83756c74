use Rattle.std.specs.Prelude.{string_bytes}
use Rattle.run_picture.proofs.Showing.{shows_then}
use Rattle.run_picture.proofs.document.put_bottom.Goals as goal

pub returns : goal.returns
returns c =
    let t0 = string_bytes c.args.text.now in
    let t1 = string_bytes c.put_cells.new.text in
    let t2 = string_bytes c.put_blocks.new.text in
    let t3 = string_bytes c.put_left.new.text in
    shows_then t0 t1 t3 _ _ c.in_ok-put_cells.ensures
    (shows_then t1 t2 t3 _ _ c.in_ok-put_blocks.ensures c.in_ok-put_left.ensures)
