use Rattle.control_block.proofs.Prelude.{Block}
use Rattle.control_block.proofs.closings.EachBlock.{left_within}
use Rattle.control_block.proofs.census.each.EachBlockIterator.next.Goals as goal
use Rattle.control_block.specs.Census.{HasBlock}

pub invariant_of-self : goal.invariant_of-self
invariant_of-self g c =
    left_within (λ (b : Block). HasBlock c.self.inside.census.now b.0) c.next.result c.self.inside.blocks
    c.next.new.self c.next.ensures.steps c.self.invariant
