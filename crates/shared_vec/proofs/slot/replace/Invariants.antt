use Rattle.std.proofs.Common.{◌≡◌}
use Rattle.shared_vec.proofs.slot.replace.Given as goal

abbrev pub invariant-loop : goal.invariant-loop
invariant-loop g l = l.new ≡ l.fn.new
