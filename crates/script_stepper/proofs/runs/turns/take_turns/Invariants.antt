use Rattle.std.proofs.Common.{take, string_bytes}
use Rattle.script_stepper.proofs.Prelude.{HasRun}
use Rattle.script_stepper.proofs.runs.turns.take_turns.Given as goal

abbrev pub invariant-loop-thread : goal.invariant-loop-thread
invariant-loop-thread l = HasRun (take l.thread-index l.turns) l.fn.world l.world (string_bytes l.fn.text) (string_bytes l.text)
