use Rattle.pointers.proofs.ListSteps.{Passed}
use Rattle.pointers.proofs.list.List.last.Given as goal

abbrev pub invariant-loop : goal.invariant-loop
invariant-loop g l = Passed g.D.Domain.opened l.fn.self l.last
