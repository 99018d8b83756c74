use Rattle.std.proofs.Common.{◌≡◌, ◌++◌}
use Rattle.std.specs.List.{flat_map}
use Rattle.step_core.specs.Worlds.{abstraction}
use Rattle.step_threads.specs.Stocks.{from}
use Rattle.script_picture.specs.Pointers.{in_slot}
use Rattle.script_picture.proofs.pointers.add_slots.Given as goal

abbrev pub invariant-loop-number : goal.invariant-loop-number
invariant-loop-number l =
    l.pointers.items ≡ l.fn.pointers.items
    ++ flat_map (in_slot (abstraction l.world) l.thread) (from 0 l.number)
