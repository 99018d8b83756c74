use Rattle.std.proofs.Common.{vec_len}
use Rattle.control_block.specs.Desks.{IsSameDesk}
use Rattle.control_block.specs.Parting.{HoldsAll}
use Rattle.handle_tests.proofs.memory.splits.leave_all.Given as goal

abbrev pub invariant-loop-handle : goal.invariant-loop-handle
invariant-loop-handle l = IsSameDesk l.fn.desk l.desk × HoldsAll l.desk l.handles.items

abbrev pub decreases-loop-handle : goal.decreases-loop-handle
decreases-loop-handle l = vec_len l.handles
