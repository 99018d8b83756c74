use Rattle.owner_graph.proofs.Prelude.{at, ◌≤◌}
use Rattle.owner_graph.proofs.Steps.{low_at, next_low}
use Rattle.owner_graph.proofs.certificates.knots.are_low.Goals as goal

pub loop-before-preserved : goal.loop-before-preserved
loop-before-preserved c =
    next_low (λ b. (1 ≤ at c.args.labels.now b) × (at c.args.labels.now b ≤ b)) c.loop-before.before
    c.loop-before.invariant
    (low_at c.args.labels.now c.as_index-vertex.result c.loop-before.before c.at-label.result
    c.as_index-vertex.ensures c.at-label.ensures c.if-label-eq0.false
    c.if-label-vertex.false)
