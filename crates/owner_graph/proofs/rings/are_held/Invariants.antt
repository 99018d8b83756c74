use Rattle.owner_graph.specs.Rings.{IsRing}
use Rattle.owner_graph.proofs.rings.are_held.Given as goal

abbrev pub invariant-loop-before : goal.invariant-loop-before
invariant-loop-before l = IsRing l.before l.index l.knots l.ring
