use Rattle.std.proofs.Common.{◌<◌, ◌≤◌, ℕ, suc}
use Rattle.shared_vec.specs.Changes.{Copies}
use Rattle.shared_vec.proofs.vector.SharedVec.move_up.Given as goal

abbrev pub invariant-loop-index : goal.invariant-loop-index
invariant-loop-index g l =
    (k : ℕ) → l.index ≤ k → suc k < l.fn.end → Copies g.D.Domain.opened l.fn.self.place k (suc k)

abbrev pub decreases-loop-index : goal.decreases-loop-index
decreases-loop-index g l = l.index
