use Rattle.std.proofs.Common.{◌≡◌, ◌++◌, take, string_bytes}
use Rattle.script_stepper.proofs.Prelude.{ended, flat_map, step_lines}
use Rattle.script_stepper.proofs.runs.steps.put_steps.Given as goal

abbrev pub invariant-loop-step : goal.invariant-loop-step
invariant-loop-step l = string_bytes l.text ≡ string_bytes l.fn.text ++ ended (flat_map step_lines (take l.step-index l.steps))
