use Rattle.owner_graph.proofs.Prelude.{AreLow}
use Rattle.owner_graph.proofs.certificates.knots.are_low.Given as goal

abbrev pub invariant-loop-before : goal.invariant-loop-before
invariant-loop-before l = AreLow l.before l.labels
