use Rattle.std.proofs.Common.{◌+◌, arith}
use Rattle.script_picture.proofs.Ending.{all_ended, ended_then, none_ended}
use Rattle.script_picture.proofs.Taking.{taken_fits, taken_thread}
use Rattle.script_picture.proofs.running.record_turns.Goals as goal

pub finish-requires-clause-thread : goal.finish-requires-clause-thread
finish-requires-clause-thread c =
    taken_thread _ c.args.world.now c.loop-index.world c.args.rows.now c.loop-index.rows
    (c.loop-index.index + 1) c.loop-index.invariant.taken
    (omega arith, omega arith)

pub finish-requires-clause-fits : goal.finish-requires-clause-fits
finish-requires-clause-fits c =
    taken_fits _ c.args.world.now c.loop-index.world c.args.rows.now c.loop-index.rows
    c.loop-index.invariant.taken c.requires.fits

pub loop-index-init : goal.loop-index-init
loop-index-init c = none_ended c.args.turns.now _ _ _ _ c.in_ok-take_turns.ensures

pub loop-index-preserved : goal.loop-index-preserved
loop-index-preserved c =
    ended_then c.args.turns.now c.loop-index.index c.args.world.now c.loop-index.world
    c.finish.new.world c.args.rows.now c.loop-index.rows
    c.finish.new.rows c.loop-index.invariant c.in_ok-finish.ensures.taken
    c.in_ok-finish.ensures.over

pub returns-clause-taken : goal.returns-clause-taken
returns-clause-taken c =
    let x = c.loop-index.invariant in
    record { more = x.more; each = (let n = x.each in omega (arith, n)); taken = x.taken }

pub returns-clause-over : goal.returns-clause-over
returns-clause-over c =
    all_ended c.args.turns.now c.loop-index.index c.args.world.now c.loop-index.world
    c.args.rows.now c.loop-index.rows (omega arith)
    c.loop-index.invariant
