use Rattle.std.proofs.Common.{◌≡◌, ◌++◌}
use Rattle.std.specs.List.{flat_map}
use Rattle.step_table.specs.GhostStates.{model_state}
use Rattle.step_threads.specs.Stocks.{from}
use Rattle.script_picture.specs.Pointers.{in_block}
use Rattle.script_picture.proofs.pointers.add_blocks.Given as goal

abbrev pub invariant-loop-before : goal.invariant-loop-before
invariant-loop-before l =
    l.pointers.items ≡ l.fn.pointers.items
    ++ flat_map (in_block (model_state l.world.ghost_state)) (from 1 l.before)
