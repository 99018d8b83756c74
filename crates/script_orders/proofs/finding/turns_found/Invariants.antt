use Rattle.std.proofs.Common.{◌≤◌}
use Rattle.script_orders.specs.Seen.{seen}
use Rattle.script_orders.proofs.finding.turns_found.Given as goal

abbrev pub invariant-loop : goal.invariant-loop
invariant-loop l = seen l.search.states ≤ l.search.most
