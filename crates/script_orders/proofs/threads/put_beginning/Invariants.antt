use Rattle.std.proofs.Common.{◌≡◌, ◌++◌, length}
use Rattle.script_orders.specs.Sorting.{begins_with}
use Rattle.script_orders.proofs.Cutting.{kept}
use Rattle.script_orders.proofs.threads.put_beginning.Given as goal

abbrev pub invariant-loop-line : goal.invariant-loop-line
invariant-loop-line l =
    l.sorted.items ++ kept (begins_with l.start) l.rest ≡ l.fn.sorted.items ++ kept (begins_with l.start) l.text

abbrev pub decreases-loop-line : goal.decreases-loop-line
decreases-loop-line l = length l.rest
