use Rattle.std.proofs.Common.{◌≡◌}
use Rattle.shared_vec.proofs.vector.SharedVec.push.Given as goal

abbrev pub invariant-loop : goal.invariant-loop
invariant-loop g l = (l.new ≡ l.fn.new) × (l.self.place ≡ l.fn.self.place)
