use Rattle.std.proofs.Common.{◌∙◌, Bool, subst, sym}
use Rattle.std.specs.Prelude.{string_bytes}
use Rattle.script_picture.specs.Pictures.{Draws}
use Rattle.script_picture.proofs.Pictures.{draws_all, draws_behind, draws_more}
use Rattle.script_picture.proofs.drawing.draw_recorded.Goals as goal

pub returns-then-has_more : goal.returns-then-has_more
returns-then-has_more c items h =
    let rows = c.args.recorded.rows in
    subst (λ (b : Bool). Draws c.args.is_page b c.args.asked items (string_bytes c.not_drawn.result.text))
    (sym c.not_drawn.ensures.none)
    (draws_more c.args.is_page c.args.asked rows.part rows.acts rows.list.items items
    (string_bytes c.not_drawn.result.text) c.requires (sym c.has_more.ensures
    ∙ c.if-has_more.true) c.not_drawn.ensures.text h)

pub returns-then-is_behind : goal.returns-then-is_behind
returns-then-is_behind c items h =
    let rows = c.args.recorded.rows in
    let none = c.not_drawn-then-is_behind in
    subst (λ (b : Bool). Draws c.args.is_page b c.args.asked items (string_bytes none.result.text))
    (sym none.ensures.none)
    (draws_behind c.args.is_page c.args.asked rows.part rows.acts rows.list.items items
    (string_bytes none.result.text) c.requires (sym c.is_behind.ensures
    ∙ c.if-is_behind.true) none.ensures.text h)

pub returns : goal.returns
returns c items h =
    let rows = c.args.recorded.rows in
    draws_all c.args.is_page c.args.asked rows.part rows.acts rows.list.items items
    (string_bytes c.in_ok-picture_text.field-0) c.requires (sym c.has_more.ensures
    ∙ c.if-has_more.false) (sym c.is_behind.ensures ∙ c.if-is_behind.false)
    c.in_ok-picture_text.ensures h
