use Rattle.std.proofs.Common.{[], ◌∷◌}
use Rattle.std.specs.Prelude.{string_bytes}
use Rattle.run_picture.proofs.Showing.{shows_after, shows_is}
use Rattle.run_picture.proofs.acts.put_touch.Goals as goal

pub returns : goal.returns
returns c =
    let t0 = string_bytes c.args.text.now in
    let t1 = string_bytes c.put_shaft.new.text in
    let t2 = string_bytes c.put_words.new.text in
    let shown = string_bytes c.args.touch.now.shown in
    shows_after t0 t1 t2 (shown ∷ []) c.in_ok-put_shaft.ensures
    (shows_is t1 t2 c.as_bytes.result.now shown c.as_bytes.ensures.value c.in_ok-put_words.ensures)
