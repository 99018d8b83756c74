use Rattle.std.proofs.Common.{◌≡◌, ◌+◌, drop}
use Rattle.script_orders.specs.Tellings.{some_statement}
use Rattle.script_orders.proofs.tellings.some_statement.Given as goal

abbrev pub invariant-loop-index : goal.invariant-loop-index
invariant-loop-index l =
    some_statement l.thread 1 l.calls l.line ≡ some_statement l.thread (l.index + 1) (drop l.index l.calls) l.line
