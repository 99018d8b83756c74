use Rattle.std.proofs.Common.{◌≡◌, take}
use Rattle.control_block.proofs.Prelude.{many_of}
use Rattle.control_block.proofs.census.holders.count_kind.Given as goal

abbrev pub invariant-loop-cell : goal.invariant-loop-cell
invariant-loop-cell l = l.count ≡ many_of l.kind (take l.cell-index l.cells)
