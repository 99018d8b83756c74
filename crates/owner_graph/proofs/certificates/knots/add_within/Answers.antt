use Rattle.std.proofs.Common.{◌∙◌, ap, sym}
use Rattle.owner_graph.proofs.Prelude.{at}
use Rattle.owner_graph.proofs.Steps.{not_zero, within_more}
use Rattle.owner_graph.proofs.certificates.knots.add_within.Goals as goal

pub returns-in_ok-push : goal.returns-in_ok-push
returns-in_ok-push c = λ hs owns inner.
    within_more hs c.args.labels.now c.args.handle c.args.steps.now.items c.push.new.self.items
    (not_zero c.as_index-from.result _ c.as_index-from.ensures c.if-from-gt0.true)
    (not_zero c.as_index-to.result _ c.as_index-to.ensures c.if-to-gt0.true)
    (ap (at c.args.labels.now) (sym c.as_index-from.ensures) ∙ sym c.at.ensures ∙ c.if-at.true
    ∙ c.at-then-to-gt0.ensures
    ∙ ap (at c.args.labels.now) c.as_index-to.ensures)
    c.in_ok-push.ensures.items owns inner
