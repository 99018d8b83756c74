use Rattle.std.proofs.Common.{arith}
use Rattle.shared_vec.proofs.Moves.{up_on}
use Rattle.shared_vec.proofs.vector.SharedVec.move_up.Goals as goal

pub loop-index-preserved : goal.loop-index-preserved
loop-index-preserved g c =
    up_on g.D.Domain.opened c.args.self.now.place c.loop-index.index c.args.end c.loop-index.invariant (omega arith)
    c.in_ok-copy.ensures.done

pub returns-clause-done : goal.returns-clause-done
returns-clause-done g c k from below = c.loop-index.invariant k (omega (arith, from)) below
