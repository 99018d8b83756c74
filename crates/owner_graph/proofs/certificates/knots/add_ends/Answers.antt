use Rattle.std.proofs.Common.{◌++◌, ◌∙◌, [], ◌∷◌, ap}
use Rattle.owner_graph.proofs.Prelude.{Holding}
use Rattle.owner_graph.proofs.Steps.{ends_more, own_label}
use Rattle.owner_graph.proofs.certificates.knots.add_ends.Goals as goal

pub returns-in_ok-push-2 : goal.returns-in_ok-push-2
returns-in_ok-push-2 c = λ hs inner.
    ends_more hs c.args.labels.now c.args.number c.args.steps.now.items c.push.new.self.items
    c.push-then-at-as_index.new.self.items c.requires
    (own_label c.args.labels.now c.as_index.result c.as_index-2.result c.at.result c.args.number
    c.as_index.ensures c.as_index-2.ensures c.at.ensures
    c.if-at-as_index.true)
    (c.in_ok-push.ensures.items ∙ ap (λ (h : Holding). c.args.steps.now.items ++ h ∷ [])
    c.step.ensures)
    (c.in_ok-push-2.ensures.items ∙ ap (λ (h : Holding). c.push.new.self.items ++ h ∷ [])
    c.step-then-at-as_index.ensures) inner
