use Rattle.std.specs.Prelude.{string_bytes}
use Rattle.run_picture.proofs.Showing.{shows_then}
use Rattle.run_picture.proofs.document.put_legends.Goals as goal

pub returns : goal.returns
returns c =
    let t0 = string_bytes c.args.text.now in
    let t1 = string_bytes c.put_label.new.text in
    let t2 = string_bytes c.put_words.new.text in
    let t3 = string_bytes c.put_words-2.new.text in
    let t4 = string_bytes c.put_words-3.new.text in
    let t5 = string_bytes c.put_words-4.new.text in
    shows_then t0 t1 t5 _ _ c.in_ok-put_label.ensures.shows
    (shows_then t1 t2 t5 _ _ c.in_ok-put_words.ensures
    (shows_then t2 t3 t5 _ _ c.in_ok-put_words-2.ensures
    (shows_then t3 t4 t5 _ _ c.in_ok-put_words-3.ensures c.in_ok-put_words-4.ensures)))
