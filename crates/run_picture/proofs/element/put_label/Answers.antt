use Rattle.std.specs.Prelude.{string_bytes}
use Rattle.run_picture.proofs.Elements.{shows_label}
use Rattle.run_picture.proofs.element.put_label.Goals as goal

pub returns-clause-shows : goal.returns-clause-shows
returns-clause-shows c =
    shows_label (string_bytes c.args.text.now) (string_bytes c.put_opening.new.text) (string_bytes c.put_bytes.new.text)
    (string_bytes c.put_closing.new.text) c.args.name.now c.args.attributes.now c.args.shown.now c.in_ok-put_opening.ensures
    c.in_ok-put_bytes.ensures c.in_ok-put_closing.ensures
