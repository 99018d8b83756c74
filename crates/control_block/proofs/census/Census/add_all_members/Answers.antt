use Rattle.std.proofs.Common.{◌+◌, arith}
use Rattle.control_block.proofs.closings.HolderLists.{next_block}
use Rattle.control_block.proofs.census.Census.add_all_members.Goals as goal

pub loop-before-preserved : goal.loop-before-preserved
loop-before-preserved g c =
    let n = c.args.self.now in let b = c.args.block.0 in
    let is = c.numbered.ensures in
    next_block n b c.loop-before.before c.numbered.result.0 c.args.cells.now.items c.loop-before.cells.items
    c.add_members.new.cells.items (omega (arith, is)) c.loop-before.invariant c.in_ok-add_members.ensures
