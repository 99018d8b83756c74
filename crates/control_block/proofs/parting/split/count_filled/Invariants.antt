use Rattle.std.proofs.Common.{◌≡◌, length, take}
use Rattle.control_block.proofs.Prelude.{handles_in}
use Rattle.control_block.proofs.parting.split.count_filled.Given as goal

abbrev pub invariant-loop-slot : goal.invariant-loop-slot
invariant-loop-slot l = l.count ≡ length (handles_in (take l.slot-index l.slots))
