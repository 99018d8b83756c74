use Rattle.std.proofs.Common.{◌-◌, ◌<◌, length, Some, None, string_bytes, arith}
use Rattle.script_stepper.proofs.OneTurn.{acted_text, acted_turn, done_text, done_turn, turn_fewer}
use Rattle.script_stepper.proofs.OneTurn.{turn_run}
use Rattle.script_stepper.proofs.runs.turns.take_turn.Goals as goal

pub returns-in_ok-put_said-in-Acted-clause-run : goal.returns-in_ok-put_said-in-Acted-clause-run
returns-in_ok-put_said-in-Acted-clause-run c =
    let lt : c.args.thread - 1 < length c.args.world.now.frame_views = omega (arith, c.requires.thread.0, c.requires.thread.1) in
    let t = acted_turn c.args.thread c.args.world.now c.turn.new.self c.in-Acted.said c.requires.rests lt c.turn.ensures.kept c.in-Acted.ensures.turns in
    turn_run c.args.thread c.args.world.now c.turn.new.self (Some c.in-Acted.said) (string_bytes c.args.text.now) (string_bytes c.put_said.new.text) t
    (acted_text c.args.thread c.in-Acted.said (string_bytes c.args.text.now) (string_bytes c.put_said.new.text) c.in_ok-put_said-in-Acted.ensures)

pub returns-in_ok-put_said-in-Acted-clause-acted : goal.returns-in_ok-put_said-in-Acted-clause-acted
returns-in_ok-put_said-in-Acted-clause-acted c =
    let lt : c.args.thread - 1 < length c.args.world.now.frame_views = omega (arith, c.requires.thread.0, c.requires.thread.1) in
    let t = acted_turn c.args.thread c.args.world.now c.turn.new.self c.in-Acted.said c.requires.rests lt c.turn.ensures.kept c.in-Acted.ensures.turns in
    t.acts

pub returns-in_ok-put_said-in-Acted-clause-less : goal.returns-in_ok-put_said-in-Acted-clause-less
returns-in_ok-put_said-in-Acted-clause-less c same =
    let lt : c.args.thread - 1 < length c.args.world.now.frame_views = omega (arith, c.requires.thread.0, c.requires.thread.1) in
    let t = acted_turn c.args.thread c.args.world.now c.turn.new.self c.in-Acted.said c.requires.rests lt c.turn.ensures.kept c.in-Acted.ensures.turns in
    turn_fewer c.args.thread c.args.world.now c.turn.new.self c.in-Acted.said lt t

-- a turn never waits
pub unreachable-requires : goal.unreachable-requires
unreachable-requires c = c.in-Waited.ensures.turns.0

pub returns-in-Done-clause-run : goal.returns-in-Done-clause-run
returns-in-Done-clause-run c =
    let lt : c.args.thread - 1 < length c.args.world.now.frame_views = omega (arith, c.requires.thread.0, c.requires.thread.1) in
    let t = done_turn c.args.thread c.args.world.now c.turn.new.self c.requires.rests lt c.turn.ensures.kept c.in-Done.ensures.turns in
    turn_run c.args.thread c.args.world.now c.turn.new.self None (string_bytes c.args.text.now) (string_bytes c.args.text.now) t
    (done_text c.args.thread (string_bytes c.args.text.now))

pub returns-in-Done-clause-acted : goal.returns-in-Done-clause-acted
returns-in-Done-clause-acted c =
    let lt : c.args.thread - 1 < length c.args.world.now.frame_views = omega (arith, c.requires.thread.0, c.requires.thread.1) in
    let t = done_turn c.args.thread c.args.world.now c.turn.new.self c.requires.rests lt c.turn.ensures.kept c.in-Done.ensures.turns in
    t.acts
