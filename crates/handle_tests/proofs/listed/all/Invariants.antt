use Rattle.control_block.specs.Desks.{IsSameDesk}
use Rattle.handle_tests.specs.Hands.{HoldsSlots}
use Rattle.handle_tests.proofs.listed.all.Given as goal

abbrev pub invariant-loop-number : goal.invariant-loop-number
invariant-loop-number g l = IsSameDesk l.fn.desk l.desk × HoldsSlots l.desk l.slots
