use Rattle.std.proofs.Common.{arith, rules}
use Rattle.shared_vec.proofs.EndSteps.{behind_at}
use Rattle.shared_vec.proofs.vector.SharedVec.same_end.Goals as goal

pub returns-then-branch-clause-behind : goal.returns-then-branch-clause-behind
returns-then-branch-clause-behind g c =
    behind_at g.D.Domain.opened c.args.self.now.place c.args.end c.number_at.result c.in-Some.leaf c.in_ok-leaf.field-0
    c.owner.result c.in_ok-is_behind.field-0 (omega arith) c.in_ok-leaf.ensures.leaf c.in-Some.is c.number_at.ensures
    c.owner.ensures c.in_ok-is_behind.ensures.told
    (search (rules, c.if-is_behind.true))
