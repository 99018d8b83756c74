use Rattle.pointer_structures.proofs.Steps.{Passed}
use Rattle.pointer_structures.proofs.tree.goes_out.Given as goal

abbrev pub invariant-loop : goal.invariant-loop
invariant-loop g l = Passed g.D.Domain.opened l.fn.parent l.fn.node l.before
