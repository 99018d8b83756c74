use Rattle.owner_graph.proofs.Prelude.{AreInner}
use Rattle.owner_graph.proofs.certificates.knots.inner_steps.Given as goal

abbrev pub invariant-loop-before : goal.invariant-loop-before
invariant-loop-before l = AreInner l.handles l.labels l.steps.items

abbrev pub invariant-loop-handle : goal.invariant-loop-handle
invariant-loop-handle l = AreInner l.handles l.labels l.steps.items
