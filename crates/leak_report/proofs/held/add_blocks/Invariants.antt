use Rattle.std.proofs.Common.{◌≡◌, ◌++◌}
use Rattle.leak_report.proofs.Prelude.{AddsAmong, flat_map, from, held_by_block, model_state}
use Rattle.leak_report.proofs.held.add_blocks.Given as goal

abbrev pub invariant-loop-before : goal.invariant-loop-before
invariant-loop-before l =
    (l.holdings.items ≡ l.fn.holdings.items ++ flat_map (held_by_block (model_state l.world.ghost_state)) (from 1 l.before))
    × AddsAmong l.world.ghost_state.extent.shape.blocks l.fn.holdings.items l.holdings.items
