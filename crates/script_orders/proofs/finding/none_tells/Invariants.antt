use Rattle.std.proofs.Common.{take}
use Rattle.script_orders.specs.Found.{outcomes_in}
use Rattle.script_orders.specs.Orders.{NoneTells}
use Rattle.script_orders.proofs.finding.none_tells.Given as goal

abbrev pub invariant-loop-index : goal.invariant-loop-index
invariant-loop-index l = NoneTells (take l.index (outcomes_in l.outcomes.found.entries)) l.line
