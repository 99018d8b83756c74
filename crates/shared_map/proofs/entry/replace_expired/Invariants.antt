use Rattle.std.proofs.Common.{◌≡◌, Option, Some}
use Rattle.shared_map.proofs.entry.replace_expired.Given as goal

abbrev pub invariant-loop : goal.invariant-loop
invariant-loop g l = l.new ≡ Some l.fn.new
