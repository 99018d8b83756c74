use denote.Param.Always.{always_mut}
use Rattle.pointers.proofs.Sifts.{SiftedTo}
use Rattle.pointers.proofs.list.List.retain.Given as goal

abbrev pub invariant-loop : goal.invariant-loop
invariant-loop g l =
    (always_mut g.F.FnMut l.initial.keep → always_mut g.F.FnMut l.keep)
    × SiftedTo g.D.Domain.opened g.E.Element.copied g.E.Element.refused g.F.FnMut
    l.fn.self l.initial.keep l.before l.keep l.out
