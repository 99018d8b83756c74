use Rattle.std.proofs.Common.{◌-◌, ◌<◌, ◌≤◌, ℕ, suc}
use Rattle.shared_vec.specs.Changes.{Copies}
use Rattle.shared_vec.proofs.vector.SharedVec.move_down.Given as goal

abbrev pub invariant-loop-index : goal.invariant-loop-index
invariant-loop-index g l =
    (l.fn.from ≤ l.index)
    × ((k : ℕ) → l.fn.from ≤ k → k < l.index → Copies g.D.Domain.opened l.fn.self.place (suc k) k)

abbrev pub decreases-loop-index : goal.decreases-loop-index
decreases-loop-index g l = l.last - l.index
