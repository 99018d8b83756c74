use Rattle.control_word.specs.declared.model.handle.Kind.TheVariants.{Owner}
use Rattle.control_block.specs.Desks.{IsSameDesk}
use Rattle.control_block.specs.CellCalls.{HoldsHandle}
use Rattle.handle_tests.proofs.ending.forgotten.forget_all.Given as goal

abbrev pub invariant-loop : goal.invariant-loop
invariant-loop l = IsSameDesk l.fn.desk l.desk × HoldsHandle l.desk Owner l.owner.block l.owner.place

abbrev pub invariant-loop-2 : goal.invariant-loop-2
invariant-loop-2 l = IsSameDesk l.fn.desk l.desk × HoldsHandle l.desk Owner l.owner.block l.owner.place
