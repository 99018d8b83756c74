use Rattle.std.proofs.Common.{arith, get_or, length, ◌<◌}
use Rattle.std.proofs.lemmas.List.Elements.{All-get_or}
use Rattle.script_stepper.specs.Running.{IsThread}
use Rattle.script_picture.proofs.Taking.{taken_fits, taken_more, taken_none, taken_thread}
use Rattle.script_picture.proofs.running.take_turns.Goals as goal

pub loop-thread-init : goal.loop-thread-init
loop-thread-init c = taken_none c.args.world.now c.args.rows.now c.requires.rests

pub take_turn-requires-clause-thread : goal.take_turn-requires-clause-thread
take_turn-requires-clause-thread c =
    let here : c.loop-thread.thread-index < length c.args.turns.now = omega arith in
    taken_thread _ c.args.world.now c.loop-thread.world c.args.rows.now c.loop-thread.rows
    (get_or c.args.turns.now c.loop-thread.thread-index 0)
    c.loop-thread.invariant
    (All-get_or (IsThread c.args.world.now) c.args.turns.now c.loop-thread.thread-index 0 here
    c.requires.threads)

pub take_turn-requires-clause-fits : goal.take_turn-requires-clause-fits
take_turn-requires-clause-fits c =
    taken_fits _ c.args.world.now c.loop-thread.world c.args.rows.now c.loop-thread.rows
    c.loop-thread.invariant c.requires.fits

pub loop-thread-preserved : goal.loop-thread-preserved
loop-thread-preserved c =
    let here : c.loop-thread.thread-index < length c.args.turns.now = omega arith in
    taken_more c.args.turns.now c.loop-thread.thread-index c.args.world.now c.loop-thread.world
    c.take_turn.new.world c.args.rows.now
    c.loop-thread.rows c.take_turn.new.rows here c.loop-thread.invariant
    c.in_ok-take_turn.ensures.taken
