use Rattle.std.proofs.Common.{◌<◌, length, get_or, string_bytes, arith}
use Rattle.script_stepper.proofs.Prelude.{All-get_or, IsThread}
use Rattle.script_stepper.proofs.RunLemmas.{run_more, run_none, run_thread}
use Rattle.script_stepper.proofs.runs.turns.take_turns.Goals as goal

pub loop-thread-init : goal.loop-thread-init
loop-thread-init c = run_none c.args.world.now (string_bytes c.args.text.now) c.requires.rests

pub take_turn-requires-clause-thread : goal.take_turn-requires-clause-thread
take_turn-requires-clause-thread c =
    let here : c.loop-thread.thread-index < length c.args.turns.now = omega arith in
    run_thread _ c.args.world.now c.loop-thread.world (string_bytes c.args.text.now) (string_bytes c.loop-thread.text)
    (get_or c.args.turns.now c.loop-thread.thread-index 0) c.loop-thread.invariant
    (All-get_or (IsThread c.args.world.now) c.args.turns.now c.loop-thread.thread-index 0 here c.requires.threads)

pub loop-thread-preserved : goal.loop-thread-preserved
loop-thread-preserved c =
    let here : c.loop-thread.thread-index < length c.args.turns.now = omega arith in
    run_more c.args.turns.now c.loop-thread.thread-index c.args.world.now c.loop-thread.world c.take_turn.new.world
    (string_bytes c.args.text.now) (string_bytes c.loop-thread.text) (string_bytes c.take_turn.new.text) here c.loop-thread.invariant
    c.in_ok-take_turn.ensures.run
