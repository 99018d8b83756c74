use Rattle.std.proofs.Common.{◌≡◌, ◌++◌}
use Rattle.control_block.specs.Holders.{some_members}
use Rattle.control_block.proofs.census.Census.add_members.Given as goal

abbrev pub invariant-loop-member : goal.invariant-loop-member
invariant-loop-member g l = l.cells.items ≡ l.fn.cells.items ++ some_members l.self l.block.0 l.of.0 l.member
