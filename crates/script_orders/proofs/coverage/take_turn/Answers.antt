use Rattle.std.proofs.Common.{◌-◌, ◌<◌, arith, length}
use Rattle.script_orders.proofs.Going.{turned}
use Rattle.script_orders.proofs.coverage.take_turn.Goals as goal

pub returns-clause-rests : goal.returns-clause-rests
returns-clause-rests c =
    let lt : c.args.thread - 1 < length c.args.world.now.frame_views =
    omega (arith, c.requires.thread.0, c.requires.thread.1) in
    (turned c.args.thread c.args.world.now c.turn-said.new.self c.turn-said.result c.requires.rests lt c.turn-said.ensures.kept
    c.turn-said.ensures.turns).0

pub returns-clause-takes : goal.returns-clause-takes
returns-clause-takes c =
    let lt : c.args.thread - 1 < length c.args.world.now.frame_views =
    omega (arith, c.requires.thread.0, c.requires.thread.1) in
    (turned c.args.thread c.args.world.now c.turn-said.new.self c.turn-said.result c.requires.rests lt c.turn-said.ensures.kept
    c.turn-said.ensures.turns).1
