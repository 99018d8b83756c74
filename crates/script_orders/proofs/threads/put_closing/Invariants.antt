use Rattle.std.proofs.Common.{◌≡◌, ◌++◌, length}
use Rattle.script_orders.specs.Sorting.{is_closing}
use Rattle.script_orders.proofs.Cutting.{kept}
use Rattle.script_orders.proofs.threads.put_closing.Given as goal

abbrev pub invariant-loop-line : goal.invariant-loop-line
invariant-loop-line l =
    l.sorted.items ++ kept is_closing l.rest ≡ l.fn.sorted.items ++ kept is_closing l.text

abbrev pub decreases-loop-line : goal.decreases-loop-line
decreases-loop-line l = length l.rest
