use Rattle.std.proofs.Common.{take, arith, length-take}
use Rattle.control_block.proofs.Prelude.{CellAt, num_length, same_kind}
use Rattle.control_block.proofs.census.holders.count_kind.Goals as goal

pub overflow_add-count : goal.overflow_add-count
overflow_add-count c =
    let i = c.loop-cell.cell-index in let few = num_length (λ (x : CellAt). same_kind c.args.kind x.kind) (take i c.args.cells.now) in
    let size = length-take i c.args.cells.now in omega (arith, c.loop-cell.invariant, c.loop-cell-test.true)
