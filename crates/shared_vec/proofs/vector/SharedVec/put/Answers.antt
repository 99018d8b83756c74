use Rattle.shared_vec.proofs.Moves.{copies}
use Rattle.shared_vec.proofs.vector.SharedVec.put.Goals as goal

pub returns-in-Ok-clause-done : goal.returns-in-Ok-clause-done
returns-in-Ok-clause-done g c =
    λ i gets. copies g.D.Domain.opened c.args.self.now.place i c.args.place c.in-Some.element c.args.held
    c.in-Ok.field-0 gets c.in-Some.is c.in-Ok.ensures.done
