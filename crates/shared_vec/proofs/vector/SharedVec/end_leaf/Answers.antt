use Rattle.std.proofs.Common.{Some}
use Rattle.shared_vec.proofs.EndSteps.{leaf_of}
use Rattle.shared_vec.proofs.vector.SharedVec.end_leaf.Goals as goal

pub returns-clause-leaf : goal.returns-clause-leaf
returns-clause-leaf g c =
    leaf_of g.D.Domain.opened c.args.self.now.place c.len.new.self.place c.in_ok-end.end (Some c.in_ok-leaf-2.leaf)
    c.in_ok-end.ensures.place c.in_ok-leaf-2.ensures.leaf
