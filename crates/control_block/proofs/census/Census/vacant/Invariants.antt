use Rattle.std.proofs.Common.{◌≡◌, ◌≤◌}
use Rattle.control_block.specs.Census.{vacant_among}
use Rattle.control_block.proofs.census.Census.vacant.Given as goal

abbrev pub invariant-loop-number : goal.invariant-loop-number
invariant-loop-number g l = record { counted : l.vacant ≡ vacant_among l.self l.number; few : l.vacant ≤ l.number }
