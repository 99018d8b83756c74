use Rattle.std.proofs.Common.{◌≡◌, ◌++◌, length, vec_capacity}
use Rattle.control_block.proofs.domain.slots_of.Given as goal

-- a slot for each cell that came, with room for the others
abbrev pub invariant-loop-cell : goal.invariant-loop-cell
invariant-loop-cell g l =
    (l.slots.items ≡ l.yielded) × (l.yielded ++ l.cell-iterator.rest.items ≡ l.fn.cells.items)
    × (vec_capacity l.slots ≡ length l.fn.cells.items)
