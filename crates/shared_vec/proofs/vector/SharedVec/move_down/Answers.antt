use Rattle.std.proofs.Common.{arith}
use Rattle.shared_vec.proofs.Moves.{down_on}
use Rattle.shared_vec.proofs.vector.SharedVec.move_down.Goals as goal

pub loop-index-preserved : goal.loop-index-preserved
loop-index-preserved g c =
    let from = c.loop-index.invariant.0 in (
      omega (arith, from),
      down_on g.D.Domain.opened c.args.self.now.place c.args.from c.loop-index.index c.loop-index.invariant.1
          c.in_ok-copy.ensures.done,
    )

pub returns-clause-done : goal.returns-clause-done
returns-clause-done g c k from below = c.loop-index.invariant.1 k from (omega (arith, below))
