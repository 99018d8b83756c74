use Rattle.shared_vec.proofs.Moves.{closes}
use Rattle.shared_vec.proofs.vector.SharedVec.close.Goals as goal

pub returns-clause-done : goal.returns-clause-done
returns-clause-done g c =
    closes g.D.Domain.opened c.args.self.now.place c.len.new.self.place c.args.index c.in_ok-end.end
    c.in_ok-last.last c.in_ok-end.ensures.place c.in_ok-end.ensures.end c.in_ok-move_down.ensures.done
    c.in_ok-last.ensures.done
