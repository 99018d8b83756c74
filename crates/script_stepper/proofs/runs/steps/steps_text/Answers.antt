use Rattle.std.proofs.Common.{string_bytes}
use Rattle.script_stepper.proofs.StepRunLemmas.{step_text_is}
use Rattle.script_stepper.proofs.runs.steps.steps_text.Goals as goal

pub returns : goal.returns
returns c =
    step_text_is c.args.turns.now c.args.world.now c.trace_of.new.world c.in_ok-trace.trace.steps.items c.as_slice.result.now
    (string_bytes c.new-text.result) (string_bytes c.put_steps.new.text) (string_bytes c.put_closing.new.text) c.in_ok-trace.ensures.run
    c.as_slice.ensures.value c.new-text.ensures.bytes c.in_ok-put_steps.ensures c.in_ok-put_closing.ensures
