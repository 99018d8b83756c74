use Rattle.std.proofs.Common.{◌≡◌, map}
use Rattle.leak_report.proofs.Prelude.{abstraction, colored, flat_map, from, in_color, state_in}
use Rattle.leak_report.proofs.color.colors.Given as goal

abbrev pub invariant-loop-before : goal.invariant-loop-before
invariant-loop-before l =
    map in_color l.blocks.items
    ≡ flat_map (colored (state_in (abstraction l.end.world)) l.found.findings l.found.held.items) (from 1 l.before)
