use Rattle.std.proofs.Common.{◌++◌, ap, ◌∙◌}
use Rattle.control_block.proofs.Prelude.{if_holds}
use Rattle.control_block.proofs.closings.HolderLists.{next_member}
use Rattle.control_block.proofs.census.Census.add_members.Goals as goal

pub loop-member-preserved : goal.loop-member-preserved
loop-member-preserved g c =
    let n = c.args.self.now in let b = c.args.block.0 in let so_far = c.loop-member.cells.items in
    next_member n b c.args.of.0 c.loop-member.member c.args.cells.now.items so_far c.add.new.cells.items c.loop-member.invariant
    (c.in_ok-add.ensures ∙ ap (λ x. so_far ++ if_holds n b x) c.member.ensures)
