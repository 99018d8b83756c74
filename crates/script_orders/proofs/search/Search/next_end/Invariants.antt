use Rattle.script_orders.specs.Seen.{GoesOn}
use Rattle.script_orders.proofs.search.Search.next_end.Given as goal

abbrev pub invariant-loop : goal.invariant-loop
invariant-loop l = GoesOn 0 l.fn.self l.self
