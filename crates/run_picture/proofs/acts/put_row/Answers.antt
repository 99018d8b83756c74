use Rattle.std.proofs.Common.{[], ◌∷◌, ◌++◌, decimal}
use Rattle.std.specs.Prelude.{string_bytes}
use Rattle.std.specs.List.{flat_map}
use Rattle.run_picture.specs.Shown.{change_words, line_words, touch_words}
use Rattle.run_picture.proofs.Showing.{shows_list, shows_then}
use Rattle.run_picture.proofs.acts.put_row.Goals as goal

pub returns : goal.returns
returns c =
    let row = c.args.row.now in
    let t0 = string_bytes c.args.text.now in
    let t1 = string_bytes c.put_act.new.text in
    let t2 = string_bytes c.put_arrow.new.text in
    let t3 = string_bytes c.put_lines.new.text in
    let t4 = string_bytes c.put_changes.new.text in
    let lines = flat_map line_words row.lines.items in
    let changes = flat_map change_words row.changes.items in
    shows_then t0 t1 t4 (decimal row.number ∷ string_bytes row.statement ∷ row.word.now ∷ [])
    (touch_words row.touch ++ (lines ++ changes))
    c.in_ok-behind.ensures
    (shows_then t1 t2 t4 (touch_words row.touch) (lines ++ changes) c.in_ok-put_arrow.ensures
    (shows_then t2 t3 t4 lines changes
    (shows_list line_words c.as_slice-2.result.now row.lines.items t2 t3 c.as_slice-2.ensures.value
    c.in_ok-below.ensures)
    (shows_list change_words c.as_slice-3.result.now row.changes.items t3 t4
    c.as_slice-3.ensures.value c.in_ok-put_changes.ensures)))
