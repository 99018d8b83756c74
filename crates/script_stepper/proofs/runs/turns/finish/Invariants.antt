use Rattle.std.proofs.Common.{◌-◌, string_bytes}
use Rattle.script_stepper.proofs.Prelude.{abstraction, turns_left}
use Rattle.script_stepper.proofs.RunLemmas.{Alone}
use Rattle.script_stepper.proofs.runs.turns.finish.Given as goal

abbrev pub invariant-loop : goal.invariant-loop
invariant-loop l = Alone l.thread l.fn.world l.world (string_bytes l.fn.text) (string_bytes l.text)

abbrev pub decreases-loop : goal.decreases-loop
decreases-loop l = turns_left (l.thread - 1) (abstraction l.world)
