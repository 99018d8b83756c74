use Rattle.std.specs.Prelude.{string_bytes}
use Rattle.script_picture.proofs.Pictures.{picture_told}
use Rattle.script_picture.proofs.drawing.run_drawn.Goals as goal

pub returns-in-Ok-clause-ok : goal.returns-in-Ok-clause-ok
returns-in-Ok-clause-ok c =
    let rows = c.in_ok-recorded.recorded.rows in
    picture_told c.args.order.is_fine c.args.order.is_page c.in-Ok.drawn.is_none c.args.order.part c.args.script.now
    c.args.turns.now rows.acts rows.list.items
    (string_bytes c.in-Ok.drawn.text) c.in_ok-recorded.ensures.ok c.in-Ok.ensures
