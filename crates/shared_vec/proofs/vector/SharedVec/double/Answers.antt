use Rattle.shared_vec.proofs.Moves.{doubles}
use Rattle.shared_vec.proofs.vector.SharedVec.double.Goals as goal

pub returns-in_ok-push-in-Some-clause-done : goal.returns-in_ok-push-in-Some-clause-done
returns-in_ok-push-in-Some-clause-done g c =
    doubles g.D.Domain.opened c.args.self.now.place c.args.index c.in_ok-push-in-Some.field-0 c.in-Some.element
    c.in_ok-element.field-0 c.in_ok-element.ensures.done c.in-Some.is c.in_ok-push-in-Some.ensures.done
