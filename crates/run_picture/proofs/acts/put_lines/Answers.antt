use Rattle.std.specs.Prelude.{string_bytes}
use Rattle.run_picture.specs.Shown.{line_words}
use Rattle.run_picture.proofs.Showing.{shows_is, shows_item, shows_none}
use Rattle.run_picture.proofs.acts.put_lines.Goals as goal

pub loop-line-init : goal.loop-line-init
loop-line-init c = shows_none (string_bytes c.args.text.now)

pub loop-line-preserved : goal.loop-line-preserved
loop-line-preserved c =
    let a = string_bytes c.args.text.now in
    let t = string_bytes c.loop-line.text in
    let u = string_bytes c.put_words.new.text in
    let line = c.line-item.result in
    shows_item line_words c.args.lines.now c.loop-line.line-index line a t u c.loop-line-test.true
    c.line-item.is c.loop-line.invariant
    (shows_is t u c.as_bytes.result.now (string_bytes line) c.as_bytes.ensures.value
    c.in_ok-put_words.ensures)
