use Rattle.shared_vec.proofs.WeakSteps.{holds}
use Rattle.shared_vec.proofs.weak_vector.hold.Goals as goal

pub returns-clause-done : goal.returns-clause-done
returns-clause-done g c =
    holds g.D.Domain.opened c.args.holder.now c.args.weak.now c.in_ok-copy.copy c.up.result c.store.result
    c.in_ok-copy.ensures.one c.up.ensures c.store.ensures.stored
