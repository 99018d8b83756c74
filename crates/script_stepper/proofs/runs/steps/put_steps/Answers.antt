use Rattle.std.proofs.Common.{◌<◌, length, None, string_bytes, arith}
use Rattle.script_stepper.proofs.Prelude.{step_lines, TraceStep}
use Rattle.step_threads.specs.declared.said.Stepped.TheVariants.{Event}
use Rattle.script_stepper.proofs.LineLemmas.{lines_on}
use Rattle.script_stepper.proofs.runs.steps.put_steps.Goals as goal

nothing : TraceStep
nothing = record { actor = 0; stepped = Event (record { statement = 0; answer = None; ended = None }) }

pub loop-step-preserved : goal.loop-step-preserved
unfolding nothing
loop-step-preserved c =
    let here : c.loop-step.step-index < length c.args.steps.now = omega arith in
    lines_on step_lines c.args.steps.now c.loop-step.step-index nothing (string_bytes c.args.text.now) (string_bytes c.loop-step.text)
    (string_bytes c.put_step.new.text) here c.loop-step.invariant c.in_ok-put_step.ensures
