use Rattle.shared_vec.proofs.WeakSteps.{locks_weak}
use Rattle.shared_vec.proofs.weak_vector.WeakVec.lock.Goals as goal

pub returns-in-Some-clause-done : goal.returns-in-Some-clause-done
returns-in-Some-clause-done g c =
    locks_weak g.D.Domain.opened c.args.self.now.holders.place c.args.index c.in-Some.holder c.in_ok-holder.field-0
    c.up.result c.lock.result c.in_ok-holder.ensures.done c.in-Some.is c.up.ensures c.lock.ensures.locked
