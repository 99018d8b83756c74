use Rattle.std.proofs.Common.{◌≡◌, ◌++◌}
use Rattle.std.specs.List.{flat_map}
use Rattle.step_table.specs.GhostStates.{model_state}
use Rattle.step_threads.specs.Stocks.{from}
use Rattle.script_picture.specs.Pointers.{in_free}
use Rattle.script_picture.proofs.pointers.add_free.Given as goal

abbrev pub invariant-loop-number : goal.invariant-loop-number
invariant-loop-number l =
    l.pointers.items ≡ l.fn.pointers.items
    ++ flat_map (in_free (model_state l.world.ghost_state)) (from 0 l.number)
