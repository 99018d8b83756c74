use Rattle.std.proofs.Common.{◌≡◌}
use Rattle.script_orders.specs.Coverage.{acting_in}
use Rattle.step_core.specs.Worlds.{abstraction}
use Rattle.script_orders.proofs.coverage.acting.Given as goal

abbrev pub invariant-loop-before : goal.invariant-loop-before
invariant-loop-before l = record {
  acting : l.acting.items ≡ acting_in (abstraction l.world) l.before;
}
