use Rattle.std.proofs.Common.{string_bytes}
use Rattle.script_stepper.proofs.EndLemmas.{Ended}
use Rattle.script_stepper.proofs.runs.turns.run_turns.Given as goal

abbrev pub invariant-loop-index : goal.invariant-loop-index
invariant-loop-index l = Ended l.turns l.index l.fn.world l.world (string_bytes l.fn.text) (string_bytes l.text)
