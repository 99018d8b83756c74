use Rattle.std.specs.Prelude.{string_bytes}
use Rattle.run_picture.proofs.Elements.{shows_group}
use Rattle.run_picture.proofs.element.put_group.Goals as goal

pub returns-clause-shows : goal.returns-clause-shows
returns-clause-shows c = λ shown within.
    shows_group (string_bytes c.args.text.now) (string_bytes c.put_opening.new.text) (string_bytes c.push_str.new.self)
    (string_bytes c.put_closing.new.text) c.args.name.now c.args.inner.now c.args.attributes.now shown c.in_ok-put_opening.ensures
    c.in_ok-push_str.ensures.bytes c.in_ok-put_closing.ensures within
