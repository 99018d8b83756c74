use Rattle.std.proofs.Common.{◌≡◌, ◌⊎◌, ◌<◌, length}
use Rattle.shared_vec.specs.Sorts.{Comes, IsPlaced}
use Rattle.shared_vec.proofs.vector.SharedVec.rotate.Given as goal

abbrev pub invariant-loop : goal.invariant-loop
invariant-loop g l =
    (l.place < length l.fn.order) × IsPlaced g.D.Domain.opened l.fn.self.place l.fn.order l.placed
    × ((l.place ≡ l.fn.start) ⊎ Comes g.D.Domain.opened l.fn.self.place l.fn.order l.fn.start)
