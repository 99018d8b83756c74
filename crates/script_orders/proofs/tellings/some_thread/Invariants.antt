use Rattle.std.proofs.Common.{◌≡◌, ◌+◌, drop, map}
use Rattle.step_threads.specs.Programs.{part_of}
use Rattle.script_orders.specs.Tellings.{some_thread}
use Rattle.script_orders.proofs.tellings.some_thread.Given as goal

abbrev pub invariant-loop-index : goal.invariant-loop-index
invariant-loop-index l =
    some_thread 1 (map part_of l.actors) l.line ≡ some_thread (l.index + 1) (map part_of (drop l.index l.actors)) l.line
