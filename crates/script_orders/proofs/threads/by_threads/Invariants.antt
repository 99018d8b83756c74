use Rattle.std.proofs.Common.{◌≡◌}
use Rattle.std.specs.List.{flat_map}
use Rattle.step_threads.specs.Stocks.{from}
use Rattle.text_lines.specs.Lines.{ended}
use Rattle.script_orders.specs.Sorting.{lines_in, thread_lines}
use Rattle.script_orders.proofs.threads.by_threads.Given as goal

abbrev pub invariant-loop-before : goal.invariant-loop-before
invariant-loop-before l = l.sorted.items ≡ ended (flat_map (thread_lines (lines_in l.text)) (from 1 l.before))
