use Rattle.std.proofs.Common.{◌∙◌, sym, []}
use Rattle.script_stepper.proofs.RunLemmas.{still_over}
use Rattle.script_picture.proofs.Taking.{alone_ends, alone_more, alone_none, taken_fits}
use Rattle.script_picture.proofs.Taking.{taken_thread}
use Rattle.script_picture.proofs.running.finish.Goals as goal

pub loop-init : goal.loop-init
loop-init c = alone_none c.args.thread c.args.world.now c.args.rows.now c.requires.rests

pub take_turn-requires-clause-thread : goal.take_turn-requires-clause-thread
take_turn-requires-clause-thread c =
    taken_thread _ c.args.world.now c.loop.world c.args.rows.now c.loop.rows c.args.thread
    c.loop.invariant.taken c.requires.thread

pub take_turn-requires-clause-fits : goal.take_turn-requires-clause-fits
take_turn-requires-clause-fits c =
    taken_fits _ c.args.world.now c.loop.world c.args.rows.now c.loop.rows c.loop.invariant.taken
    c.requires.fits

pub loop-smaller : goal.loop-smaller
loop-smaller c = c.in_ok-take_turn.ensures.less c.if-branch.true

pub loop-preserved : goal.loop-preserved
loop-preserved c =
    alone_more c.args.thread c.args.world.now c.loop.world c.take_turn.new.world c.args.rows.now
    c.loop.rows c.take_turn.new.rows c.loop.invariant
    c.in_ok-take_turn.ensures.taken (c.in_ok-take_turn.ensures.less c.if-branch.true)

pub returns-clause-taken : goal.returns-clause-taken
returns-clause-taken c =
    alone_ends c.args.thread c.args.world.now c.loop.world c.take_turn.new.world c.args.rows.now
    c.loop.rows c.take_turn.new.rows c.loop.invariant
    c.in_ok-take_turn.ensures.taken

pub returns-clause-over : goal.returns-clause-over
returns-clause-over c =
    let h = c.in_ok-take_turn.ensures.taken in
    still_over c.args.thread c.loop.world c.take_turn.new.world [] h.text h.run (sym c.in_ok-take_turn.ensures.acted ∙ c.if-branch.false)
