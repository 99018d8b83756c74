use Rattle.std.proofs.Common.{◌-◌}
use denote.Param.Always.{always_mut}
use Rattle.shared_vec.specs.Vectors.{Gets}
use Rattle.shared_vec.specs.Walks.{Shows}
use Rattle.shared_vec.proofs.vector.SharedVec.each.Given as goal

abbrev pub invariant-loop-index : goal.invariant-loop-index
invariant-loop-index g l =
    (always_mut g.F.FnMut l.initial.f → always_mut g.F.FnMut l.f)
    × Shows (Gets g.D.Domain.opened l.fn.self.place) g.E.Shown.shows g.F.FnMut l.index l.initial.f l.f

abbrev pub decreases-loop-index : goal.decreases-loop-index
decreases-loop-index g l = 18446744073709551615 - l.index
