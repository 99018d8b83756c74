use Rattle.std.proofs.Common.{string_bytes, sym, ◌∙◌}
use Rattle.script_stepper.proofs.RunLemmas.{alone_ends, alone_more, alone_none, run_thread}
use Rattle.script_stepper.proofs.RunLemmas.{still_over}
use Rattle.script_stepper.proofs.runs.turns.finish.Goals as goal

pub loop-init : goal.loop-init
loop-init c = alone_none c.args.thread c.args.world.now (string_bytes c.args.text.now) c.requires.rests

pub take_turn-requires-clause-thread : goal.take_turn-requires-clause-thread
take_turn-requires-clause-thread c =
    run_thread _ c.args.world.now c.loop.world (string_bytes c.args.text.now) (string_bytes c.loop.text) c.args.thread c.loop.invariant.run
    c.requires.thread

pub loop-smaller : goal.loop-smaller
loop-smaller c = c.in_ok-take_turn.ensures.less c.if-branch.true

pub loop-preserved : goal.loop-preserved
loop-preserved c =
    alone_more c.args.thread c.args.world.now c.loop.world c.take_turn.new.world (string_bytes c.args.text.now) (string_bytes c.loop.text)
    (string_bytes c.take_turn.new.text) c.loop.invariant c.in_ok-take_turn.ensures.run (c.in_ok-take_turn.ensures.less c.if-branch.true)

pub returns-clause-run : goal.returns-clause-run
returns-clause-run c =
    alone_ends c.args.thread c.args.world.now c.loop.world c.take_turn.new.world (string_bytes c.args.text.now) (string_bytes c.loop.text)
    (string_bytes c.take_turn.new.text)
    c.loop.invariant c.in_ok-take_turn.ensures.run

pub returns-clause-over : goal.returns-clause-over
returns-clause-over c =
    still_over c.args.thread c.loop.world c.take_turn.new.world (string_bytes c.loop.text) (string_bytes c.take_turn.new.text)
    c.in_ok-take_turn.ensures.run (sym c.in_ok-take_turn.ensures.acted ∙ c.if-branch.false)
