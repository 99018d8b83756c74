use Rattle.std.proofs.Common.{string_bytes}
use Rattle.script_orders.specs.Differences.{AreDifferences}
use Rattle.script_orders.proofs.differences.words_of.Given as goal

abbrev pub invariant-loop-statement : goal.invariant-loop-statement
invariant-loop-statement l = AreDifferences (string_bytes l.words)
