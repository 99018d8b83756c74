use Rattle.std.proofs.Common.{◌≡◌}
use Rattle.script_orders.specs.Seen.{seen}
use Rattle.script_orders.proofs.states.States.first.Given as goal

abbrev pub invariant-loop-thread : goal.invariant-loop-thread
invariant-loop-thread l =
    (goal.iterator-loop-thread).can_next l.thread-iterator × (goal.iterator-loop-thread).is_finite l.thread-iterator ×
    (seen l.self ≡ seen l.fn.self)
