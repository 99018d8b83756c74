use Rattle.std.proofs.Common.{List, subst}
use Rattle.owner_graph.proofs.Prelude.{Holding, OwnersLead}
use Rattle.owner_graph.proofs.Steps.{knots_are}
use Rattle.owner_graph.proofs.certificates.knots.are_knots.Goals as goal

pub returns : goal.returns
returns c = λ yes.
    knots_are c.args.vertices c.args.handles.now c.args.ranks.now c.args.labels.now
    c.in_ok-steps.steps.items c.requires.among
    c.requires.size c.requires.same (c.are_ranked.ensures.0 c.if-not-are_ranked.false)
    (c.are_low.ensures c.if-not-are_low.false) c.in_ok-steps.ensures
    (λ b some le. subst (λ (st : List Holding). OwnersLead st 0 b) c.as_slice.ensures.value
    (c.in_ok-down.ensures c.if-not-down.false b some le))
    (λ b some le. subst (λ (st : List Holding). OwnersLead st b 0) c.as_slice-2.ensures.value
    (c.in_ok-up.ensures yes b some le))
