use Rattle.std.proofs.Common.{◌≡◌, ◌++◌, take}
use Rattle.script_orders.specs.Found.{outcomes_in}
use Rattle.script_orders.specs.Orders.{told_from}
use Rattle.script_orders.proofs.report.put_outcomes.Given as goal

abbrev pub invariant-loop-index : goal.invariant-loop-index
invariant-loop-index l =
    l.text.items ≡ l.fn.text.items ++ told_from 1 (take l.index (outcomes_in l.outcomes.found.entries))
