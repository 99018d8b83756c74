use Rattle.std.proofs.Common.{◌≡◌, ◌++◌}
use Rattle.control_block.proofs.Prelude.{free_holders}
use Rattle.control_block.proofs.census.Census.add_free.Given as goal

abbrev pub invariant-loop-number : goal.invariant-loop-number
invariant-loop-number g l = l.cells.items ≡ l.fn.cells.items ++ free_holders l.self l.block.0 l.number
