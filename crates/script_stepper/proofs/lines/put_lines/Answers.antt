use Rattle.std.proofs.Common.{◌<◌, length, None, string_bytes, arith}
use Rattle.script_stepper.proofs.Prelude.{Said, said_lines}
use Rattle.script_stepper.proofs.LineLemmas.{lines_on}
use Rattle.script_stepper.proofs.lines.put_lines.Goals as goal

nothing : Said
nothing = record { statement = 0; answer = None; ended = None }

pub loop-act-preserved : goal.loop-act-preserved
unfolding nothing
loop-act-preserved c =
    let here : c.loop-act.act-index < length c.args.said.now = omega arith in
    lines_on (said_lines c.args.thread) c.args.said.now c.loop-act.act-index nothing (string_bytes c.args.text.now) (string_bytes c.loop-act.text)
    (string_bytes c.put_said.new.text) here c.loop-act.invariant c.in_ok-put_said.ensures
