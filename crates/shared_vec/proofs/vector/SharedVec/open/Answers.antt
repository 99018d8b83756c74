use Rattle.shared_vec.proofs.Moves.{opens}
use Rattle.shared_vec.proofs.vector.SharedVec.open.Goals as goal

pub returns-clause-done : goal.returns-clause-done
returns-clause-done g c =
    opens g.D.Domain.opened c.args.self.now.place c.double.new.self.place c.args.index c.args.end
    c.in_ok-double.ensures.place c.in_ok-double.ensures.done c.in_ok-move_up.ensures.done
