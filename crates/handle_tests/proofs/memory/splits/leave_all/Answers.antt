use Rattle.std.proofs.Common.{subst}
use Rattle.control_block.specs.Parting.{HoldsAll}
use Rattle.shared_handle.proofs.Piles.{same_both}
use Rattle.handle_tests.proofs.Parting.{last_left}
use Rattle.handle_tests.proofs.memory.splits.leave_all.Goals as goal

pub loop-handle-preserved : goal.loop-handle-preserved
loop-handle-preserved c =
    let d = c.loop-handle.desk in let e = c.leave.new.desk in (
      same_both c.args.desk.now d e c.loop-handle.invariant.0 c.leave.ensures.desk,
      last_left d e c.in-Some.handle c.pop.new.self.items (subst (HoldsAll d) c.in-Some.ensures.items c.loop-handle.invariant.1)
          c.leave.ensures.bag c.leave.ensures.held,
    )
