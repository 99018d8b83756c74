use Rattle.shared_vec.proofs.EndSteps.{pushes}
use Rattle.shared_vec.proofs.vector.SharedVec.push.Goals as goal

pub returns-in-None-2-clause-done : goal.returns-in-None-2-clause-done
returns-in-None-2-clause-done g c =
    pushes g.D.Domain.opened c.args.self.now.place c.loop.self.place c.in-Ok.found.0 c.number_at.result
    c.in-Ok.found.1 c.loop.new c.args.new c.owner.result c.in_ok-swap_in.field-0 c.loop.invariant.1
    c.in-Ok.ensures.behind c.in-Ok.ensures.leaf c.number_at.ensures c.owner.ensures c.in_ok-swap_in.ensures.done
    c.in-None-2.is c.loop.invariant.0
