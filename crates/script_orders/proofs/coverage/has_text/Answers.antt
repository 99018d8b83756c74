use Rattle.std.proofs.Common.{◌≡◌, ◌∙◌, rules, sym}
use Rattle.script_orders.proofs.Looking.{text_there}
use Rattle.script_orders.proofs.coverage.has_text.Goals as goal

pub returns-then-eq : goal.returns-then-eq
returns-then-eq c is_true =
    let same : c.as_slice.result.now ≡ c.args.wanted.now = search rules in
    text_there c.args.outcomes.now.found.entries c.loop-index.index (c.in-Some.text.now, c.in-Some.field-0-1.now)
    c.args.wanted.now (sym c.in-Some.ensures.entry) (sym c.as_slice.ensures.value ∙ same)
