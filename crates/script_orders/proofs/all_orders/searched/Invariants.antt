use Rattle.std.proofs.Common.{◌≤◌, length}
use Rattle.script_orders.specs.Found.{outcomes_in}
use Rattle.script_orders.specs.Orders.{AreOutcomes, BeginsAlone}
use Rattle.script_orders.specs.Seen.{GoesOn, seen}
use Rattle.script_orders.proofs.all_orders.searched.Given as goal

abbrev pub invariant-loop : goal.invariant-loop
invariant-loop l = record {
  each : AreOutcomes l.script (outcomes_in l.outcomes.found.entries);
  first : BeginsAlone (outcomes_in l.outcomes.found.entries);
  goes : GoesOn 0 l.fn.search l.search;
  count : length (outcomes_in l.outcomes.found.entries) ≤ seen l.search.states;
}
