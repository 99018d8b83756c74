use Rattle.std.proofs.Common.{arith}
use Rattle.control_block.proofs.partings.PartingDesks.{allowance_most}
use Rattle.control_block.proofs.desk.Desk.held.Goals as goal

pub overflow_add-result : goal.overflow_add-result
overflow_add-result g c =
    let h = c.self.invariant in let most = allowance_most c.self.inside h in omega (arith, h.within, c.min.ensures)
