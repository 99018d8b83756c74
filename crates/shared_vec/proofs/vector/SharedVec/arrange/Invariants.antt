use Rattle.std.proofs.Common.{◌<◌, ℕ}
use Rattle.shared_vec.specs.Sorts.{Comes, IsPlaced}
use Rattle.shared_vec.proofs.vector.SharedVec.arrange.Given as goal

abbrev pub invariant-loop-start : goal.invariant-loop-start
invariant-loop-start g l =
    ((i : ℕ) → i < l.start → Comes g.D.Domain.opened l.fn.self.place l.fn.order i)
    × IsPlaced g.D.Domain.opened l.fn.self.place l.fn.order l.placed
