use Rattle.shared_vec.proofs.Ways.{Way}
use Rattle.shared_vec.proofs.leaf.descend.Given as goal

abbrev pub invariant-loop-level : goal.invariant-loop-level
invariant-loop-level g l = Way g.D.Domain.opened l.fn.index l.fn.level l.fn.node l.level l.node

abbrev pub decreases-loop-level : goal.decreases-loop-level
decreases-loop-level g l = l.level
