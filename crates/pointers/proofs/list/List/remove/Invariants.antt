use Rattle.pointers.proofs.ListRemovals.{Searched}
use Rattle.pointers.proofs.list.List.remove.Given as goal

abbrev pub invariant-loop : goal.invariant-loop
invariant-loop g l =
    Searched g.D.Domain.opened g.E.Element.copied g.E.Element.is_same l.fn.self l.fn.element l.before
