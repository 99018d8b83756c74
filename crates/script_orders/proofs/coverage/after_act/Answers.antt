use Rattle.script_orders.proofs.Going.{after_more, thread_there}
use Rattle.script_orders.proofs.coverage.after_act.Goals as goal

pub take_turn-requires-clause-rests : goal.take_turn-requires-clause-rests
take_turn-requires-clause-rests c = c.in_ok-world.ensures.after.rests

pub take_turn-requires-clause-thread : goal.take_turn-requires-clause-thread
take_turn-requires-clause-thread c =
    thread_there c.args.script.now c.args.turns.now c.args.thread _ c.in_ok-world.ensures.after c.requires.thread

pub returns-clause-after : goal.returns-clause-after
returns-clause-after c =
    after_more c.args.script.now c.args.turns.now c.args.thread _ c.take_turn.new.world c.in_ok-world.ensures.after
    c.requires.thread c.take_turn.ensures.rests c.take_turn.ensures.size c.take_turn.ensures.takes
