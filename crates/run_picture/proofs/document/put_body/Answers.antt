use Rattle.std.specs.Prelude.{string_bytes}
use Rattle.run_picture.specs.Shown.{row_words}
use Rattle.run_picture.proofs.Showing.{shows_list, shows_picture}
use Rattle.run_picture.proofs.document.put_body.Goals as goal

pub returns : goal.returns
returns c =
    let picture = c.args.picture.now in
    let t0 = string_bytes c.args.text.now in
    let t1 = string_bytes c.put_top.new.text in
    let t2 = string_bytes c.put_rows.new.text in
    let t3 = string_bytes c.put_bottom.new.text in
    shows_picture picture c.put_rows.new.page.lanes.cells.items c.put_rows.new.page.lanes.blocks.items
    t0 t1 t2 t3 c.in_ok-put_top.ensures
    (shows_list row_words c.as_slice.result.now picture.rows.items t1 t2 c.as_slice.ensures.value
    c.in_ok-bottom.ensures) c.in_ok-put_bottom.ensures
