use Rattle.std.proofs.Common.{take}
use Rattle.script_orders.specs.Coverage.{IsAfter}
use Rattle.script_orders.proofs.coverage.world_after.Given as goal

abbrev pub invariant-loop-thread : goal.invariant-loop-thread
invariant-loop-thread l = record {
  after : IsAfter l.script (take l.thread-index l.turns) l.world;
}
