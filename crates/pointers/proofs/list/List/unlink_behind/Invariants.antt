use Rattle.pointers.specs.Lists.{Leads, next_of}
use Rattle.pointers.proofs.ListRemovals.{Seeks}
use Rattle.pointers.proofs.list.List.unlink_behind.Given as goal

abbrev pub invariant-loop : goal.invariant-loop
invariant-loop g l =
    Seeks g.D.Domain.opened l.fn.node l.fn.from l.before × Leads g.D.Domain.opened (next_of l.fn.node) l.rest
