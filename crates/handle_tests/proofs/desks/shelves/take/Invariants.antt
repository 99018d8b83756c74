use Rattle.control_block.specs.Desks.{IsSameDesk}
use Rattle.handle_tests.proofs.desks.shelves.take.Given as goal

abbrev pub invariant-loop : goal.invariant-loop
invariant-loop l = IsSameDesk l.fn.desk l.desk
