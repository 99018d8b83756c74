use Rattle.std.proofs.Common.{◌≡◌}
use Rattle.shared_vec.specs.Vectors.{Truncates}
use Rattle.shared_vec.proofs.vector.SharedVec.truncate.Given as goal

abbrev pub invariant-loop-end : goal.invariant-loop-end
invariant-loop-end g l =
    (l.self.place ≡ l.fn.self.place) × Truncates g.D.Domain.opened l.fn.self.place l.end

abbrev pub decreases-loop-end : goal.decreases-loop-end
decreases-loop-end g l = l.end
