use Rattle.std.proofs.Common.{◌-◌, arith, rules}
use Rattle.shared_vec.proofs.EndSteps.{pops}
use Rattle.shared_vec.proofs.vector.SharedVec.pop.Goals as goal

pub returns-in-Some-3-clause-done : goal.returns-in-Some-3-clause-done
returns-in-Some-3-clause-done g c =
    pops g.D.Domain.opened c.args.self.now.place c.loop.self.place c.len.new.self.place c.in_ok-end.end
    (c.in_ok-end.end - 1) c.number_at.result c.in-Some-2.leaf c.in-Some-3.owner c.in_ok-leaf.field-0 c.owner.result
    c.in_ok-owner.field-0 c.loop.invariant c.in_ok-end.ensures.place c.in_ok-end.ensures.end (omega arith)
    c.in_ok-leaf.ensures.leaf c.in-Some-2.is c.number_at.ensures c.owner.ensures (search rules)
    c.in-Some-3.is
