use Rattle.std.proofs.Common.{vec_len}
use Rattle.control_block.specs.Desks.{IsSameDesk}
use Rattle.handle_tests.specs.Hands.{HoldsSlots}
use Rattle.handle_tests.proofs.listed.slots.wind_up.Given as goal

abbrev pub invariant-loop-slot : goal.invariant-loop-slot
invariant-loop-slot l = IsSameDesk l.fn.desk l.desk × HoldsSlots l.desk l.slots.items

abbrev pub decreases-loop-slot : goal.decreases-loop-slot
decreases-loop-slot l = vec_len l.slots
