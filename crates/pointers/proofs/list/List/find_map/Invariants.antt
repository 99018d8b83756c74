use Rattle.std.specs.Prelude.{None}
use denote.Param.Always.{always_mut}
use Rattle.pointers.proofs.Walks.{Reached}
use Rattle.pointers.proofs.list.List.find_map.Given as goal

abbrev pub invariant-loop : goal.invariant-loop
invariant-loop g l =
    (always_mut g.F.FnMut l.initial.f → always_mut g.F.FnMut l.f)
    × Reached g.D.Domain.opened g.E.Element.copied g.E.Element.refused g.F.FnMut
    l.fn.self None l.initial.f l.before l.f
