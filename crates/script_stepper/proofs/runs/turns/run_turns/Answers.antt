use Rattle.std.proofs.Common.{◌+◌, string_bytes, arith}
use Rattle.script_stepper.proofs.EndLemmas.{all_over, ended_then, none_ended}
use Rattle.script_stepper.proofs.RunLemmas.{run_thread}
use Rattle.script_stepper.proofs.runs.turns.run_turns.Goals as goal

pub finish-requires-clause-thread : goal.finish-requires-clause-thread
finish-requires-clause-thread c =
    run_thread _ c.args.world.now c.loop-index.world (string_bytes c.args.text.now) (string_bytes c.loop-index.text) (c.loop-index.index + 1)
    c.loop-index.invariant.run (omega arith, omega arith)

pub loop-index-init : goal.loop-index-init
loop-index-init c = none_ended c.args.turns.now _ _ _ _ c.in_ok-take_turns.ensures

pub loop-index-preserved : goal.loop-index-preserved
loop-index-preserved c =
    ended_then c.args.turns.now c.loop-index.index c.args.world.now c.loop-index.world c.finish.new.world
    (string_bytes c.args.text.now) (string_bytes c.loop-index.text) (string_bytes c.finish.new.text) c.loop-index.invariant
    c.in_ok-finish.ensures.run c.in_ok-finish.ensures.over

pub returns-clause-run : goal.returns-clause-run
returns-clause-run c =
    let x = c.loop-index.invariant in record { more = x.more; each = (let n = x.each in omega (arith, n)); run = x.run }

pub returns-clause-over : goal.returns-clause-over
returns-clause-over c =
    all_over _ c.loop-index.index c.args.world.now c.loop-index.world (string_bytes c.args.text.now) (string_bytes c.loop-index.text)
    (omega arith) c.loop-index.invariant.run c.loop-index.invariant.over
