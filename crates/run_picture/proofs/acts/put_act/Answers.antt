use Rattle.std.proofs.Common.{[], ◌∷◌, decimal}
use Rattle.std.specs.Prelude.{string_bytes}
use Rattle.run_picture.proofs.Showing.{shows_after, shows_is, shows_then}
use Rattle.run_picture.proofs.acts.put_act.Goals as goal

pub returns : goal.returns
returns c =
    let row = c.args.row.now in
    let t0 = string_bytes c.args.text.now in
    let t1 = string_bytes c.put_number.new.text in
    let t2 = string_bytes c.put_dot.new.text in
    let t3 = string_bytes c.put_words.new.text in
    let t4 = string_bytes c.put_words-2.new.text in
    shows_then t0 t1 t4 (decimal row.number ∷ []) (string_bytes row.statement ∷ row.word.now ∷ [])
    c.in_ok-put_number.ensures
    (shows_after t1 t2 t4 (string_bytes row.statement ∷ row.word.now ∷ []) c.in_ok-put_dot.ensures
    (shows_then t2 t3 t4 (string_bytes row.statement ∷ []) (row.word.now ∷ [])
    (shows_is t2 t3 c.as_bytes.result.now (string_bytes row.statement) c.as_bytes.ensures.value
    c.in_ok-put_words.ensures)
    (shows_is t3 t4 c.as_bytes-2.result.now row.word.now c.as_bytes-2.ensures.value
    c.in_ok-put_words-2.ensures)))
