use Rattle.owner_graph.proofs.Steps.{owned_at}
use Rattle.owner_graph.proofs.certificates.knots.inner_steps.Goals as goal

pub loop-before-preserved : goal.loop-before-preserved
loop-before-preserved c = c.in_ok-add_ends.ensures c.args.handles.now c.loop-before.invariant

pub loop-handle-preserved : goal.loop-handle-preserved
loop-handle-preserved c =
    c.in_ok-add_within.ensures c.args.handles.now
    (λ o. owned_at c.args.handles.now c.loop-handle.handle-index _ c.loop-handle-test.true o)
    c.loop-handle.invariant
