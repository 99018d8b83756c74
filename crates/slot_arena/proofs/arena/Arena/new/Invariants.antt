use Rattle.std.proofs.Common.{◌≡◌, None, replicate, vec_capacity}
use Rattle.slot_arena.proofs.arena.Arena.new.Given as goal

abbrev pub invariant-loop : goal.invariant-loop
invariant-loop g l = (l.cells.items ≡ replicate l.counter None) × (vec_capacity l.cells ≡ l.count)
