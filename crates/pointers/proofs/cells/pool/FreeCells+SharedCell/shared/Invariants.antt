use Rattle.std.proofs.Common.{◌≡◌}
use Rattle.pointers.proofs.Prelude.{cells_from}
use Rattle.pointers.proofs.cells.pool.FreeCells+SharedCell.shared.Given as goal

abbrev pub invariant-loop-number : goal.invariant-loop-number
invariant-loop-number l = l.cells.items ≡ cells_from (λ n. record { 0 = n }) l.fn.first l.number
