use Rattle.owner_graph.proofs.Prelude.{All}
use Rattle.owner_graph.specs.Rings.{IsRing}
use Rattle.owner_graph.proofs.rings.held_rings.Given as goal

abbrev pub invariant-loop-ring : goal.invariant-loop-ring
invariant-loop-ring l = All (IsRing l.vertices l.index l.knots) l.rings.items

abbrev pub decreases-loop-ring : goal.decreases-loop-ring
decreases-loop-ring l = goal.left-loop-ring l
