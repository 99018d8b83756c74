use Rattle.std.proofs.Common.{◌-◌}
use Rattle.shared_vec.proofs.EndSteps.{Between}
use Rattle.shared_vec.proofs.vector.SharedVec.end_below.Given as goal

abbrev pub invariant-loop-low : goal.invariant-loop-low
invariant-loop-low g l = Between g.D.Domain.opened l.fn.self.place l.low l.high l.middle

abbrev pub decreases-loop-low : goal.decreases-loop-low
decreases-loop-low g l = l.high - l.low
