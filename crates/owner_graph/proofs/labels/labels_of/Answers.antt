use Rattle.std.proofs.Common.{◌≡◌, ◌∙◌, ℕ, List, ap}
use Rattle.owner_graph.proofs.Prelude.{at}
use Rattle.owner_graph.proofs.Steps.{at_pushed}
use Rattle.owner_graph.proofs.labels.labels_of.Goals as goal

pub loop-vertex-preserved : goal.loop-vertex-preserved
loop-vertex-preserved c =
    at_pushed (λ k x. x ≡ at c.args.certificate.now.firsts.items (at c.args.certificate.now.ranks.items k))
    c.loop-vertex.labels.items c.push.new.self.items
    c.at.result c.loop-vertex.vertex c.in_ok-push.ensures.items c.loop-vertex.invariant.0
    c.loop-vertex.invariant.1
    (c.at.ensures ∙ ap (λ (l : List ℕ). at l c.at-rank.result)
    c.as_slice-in-loop-vertex.ensures.value
    ∙ ap (λ (r : ℕ). at c.args.certificate.now.firsts.items r) (c.at-rank.ensures
    ∙ ap (λ (l : List ℕ). at l c.loop-vertex.vertex) c.as_slice.ensures.value))
