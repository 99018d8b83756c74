use Rattle.shared_vec.proofs.Moves.{copies}
use Rattle.shared_vec.proofs.vector.SharedVec.copy.Goals as goal

pub returns-in_ok-back-in-Some-clause-done : goal.returns-in_ok-back-in-Some-clause-done
returns-in_ok-back-in-Some-clause-done g c =
    copies g.D.Domain.opened c.args.self.now.place c.args.from c.args.to c.in-Some.element c.in_ok-element.field-0
    c.in_ok-back-in-Some.back c.in_ok-element.ensures.done c.in-Some.is c.in_ok-back-in-Some.ensures.done
