use Rattle.std.proofs.Common.{◌≡◌}
use Rattle.shared_vec.proofs.vector.SharedVec.pop.Given as goal

abbrev pub invariant-loop : goal.invariant-loop
invariant-loop g l = l.self.place ≡ l.fn.self.place
