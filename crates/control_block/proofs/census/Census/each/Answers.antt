use Rattle.std.proofs.Common.{ap, ◌∙◌}
use Rattle.control_block.proofs.Prelude.{CensusNow}
use Rattle.control_block.proofs.closings.EachBlock.{all_within}
use Rattle.control_block.proofs.census.Census.each.Goals as goal
use Rattle.control_word.specs.Blocks.{blocks_from}

pub invariant_of-result : goal.invariant_of-result
invariant_of-result g c =
    all_within c.args.self.now.blocks c.all.result
    (c.all.ensures.within c.self.invariant.3 ∙ ap (λ (z : CensusNow). blocks_from 1 z.blocks) c.self.view_is)
