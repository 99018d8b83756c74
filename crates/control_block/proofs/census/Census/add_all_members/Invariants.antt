use Rattle.std.proofs.Common.{◌≡◌, ◌++◌}
use Rattle.control_block.proofs.Prelude.{member_holders}
use Rattle.control_block.proofs.census.Census.add_all_members.Given as goal

abbrev pub invariant-loop-before : goal.invariant-loop-before
invariant-loop-before g l = l.cells.items ≡ l.fn.cells.items ++ member_holders l.self l.block.0 l.before
