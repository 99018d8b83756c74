use Rattle.std.proofs.Common.{IfSome, length, ◌<◌, ◌≡◌}
use Rattle.script_orders.specs.Coverage.{IsAfter}
use Rattle.script_orders.specs.Found.{outcomes_in}
use Rattle.script_orders.proofs.Forking.{Forks}
use Rattle.script_orders.proofs.coverage.+walk.Given as goal

abbrev pub invariant-loop-thread : goal.invariant-loop-thread
invariant-loop-thread l = record {
  forks : Forks l.found.script.now (outcomes_in l.found.outcomes.now.found.entries) l.fn.turns.items l.turns.items
      l.thread-items l.thread-index;
  here : IfSome l.here (λ world. IsAfter l.found.script.now l.turns.items world);
  size : length l.turns.items ≡ l.length;
  less : l.left.beginnings < l.fn.left.beginnings;
}

abbrev pub decreases-walk : goal.decreases-walk
decreases-walk l = l.left.now.beginnings
