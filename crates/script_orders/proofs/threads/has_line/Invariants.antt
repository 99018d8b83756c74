use Rattle.std.proofs.Common.{Contains, length}
use Rattle.script_orders.specs.Sorting.{lines_in}
use Rattle.script_orders.proofs.threads.has_line.Given as goal

abbrev pub invariant-loop-first : goal.invariant-loop-first
invariant-loop-first l = record {
  has : Contains (lines_in l.rest) l.line → Contains (lines_in l.text) l.line;
  none : Contains (lines_in l.text) l.line → Contains (lines_in l.rest) l.line;
}

abbrev pub decreases-loop-first : goal.decreases-loop-first
decreases-loop-first l = length l.rest
