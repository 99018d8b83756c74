use Rattle.std.proofs.Common.{◌++◌, ap, ◌∙◌}
use Rattle.control_block.proofs.Prelude.{if_holds}
use Rattle.control_block.proofs.closings.HolderLists.{next_free}
use Rattle.control_block.proofs.census.Census.add_free.Goals as goal

pub loop-number-preserved : goal.loop-number-preserved
loop-number-preserved g c =
    let n = c.args.self.now in let b = c.args.block.0 in let so_far = c.loop-number.cells.items in
    next_free n b c.loop-number.number c.args.cells.now.items so_far c.add.new.cells.items c.loop-number.invariant
    (c.in_ok-add.ensures ∙ ap (λ x. so_far ++ if_holds n b x) c.free.ensures)
