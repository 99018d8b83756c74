use Rattle.pointers.proofs.ListSteps.{Counted}
use Rattle.pointers.proofs.list.List.count.Given as goal

abbrev pub invariant-loop : goal.invariant-loop
invariant-loop g l = Counted g.D.Domain.opened g.E.Element.copied l.fn.self l.before l.count
