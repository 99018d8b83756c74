use Rattle.std.proofs.Common.{◌≡◌, ◌++◌}
use Rattle.leak_report.proofs.Prelude.{AddsAmong, flat_map, from, held_by_free, model_state}
use Rattle.leak_report.proofs.held.add_free.Given as goal

abbrev pub invariant-loop-number : goal.invariant-loop-number
invariant-loop-number l =
    (l.holdings.items ≡ l.fn.holdings.items ++ flat_map (held_by_free (model_state l.world.ghost_state)) (from 0 l.number))
    × AddsAmong l.world.ghost_state.extent.shape.blocks l.fn.holdings.items l.holdings.items
