use Rattle.std.proofs.Common.{ℕ, ◌-◌, ◌<◌, length, ap, arith, refl, subst, sym}
use Rattle.std.specs.Prelude.{None, Some}
use Rattle.step_table.specs.declared.memory.extent.Extent.{Extent}
use Rattle.step_core.specs.Runs.{NamesActor}
use Rattle.script_stepper.proofs.OneTurn.{acted_turn, done_turn, turn_fewer}
use Rattle.script_picture.proofs.Recordings.{adds_none}
use Rattle.script_picture.proofs.Taking.{fits_still, taken_turn}
use Rattle.script_picture.proofs.running.take_turn.Goals as goal

pub add_row-requires-clause-fits : goal.add_row-requires-clause-fits
add_row-requires-clause-fits c =
    fits_still c.args.rows.now.source c.args.rows.now.source c.args.world.now c.turn.new.self refl
    (ap (λ (x : Extent). x.shape) c.turn.ensures.extent) c.requires.fits

pub add_row-requires-clause-thread : goal.add_row-requires-clause-thread
add_row-requires-clause-thread c =
    subst (λ (n : ℕ). NamesActor n c.args.thread) (sym c.turn.ensures.actors) c.requires.thread

pub returns-in_ok-add_row-in-Acted-clause-taken : goal.returns-in_ok-add_row-in-Acted-clause-taken
returns-in_ok-add_row-in-Acted-clause-taken c =
    let lt : c.args.thread - 1 < length c.args.world.now.frame_views = omega (arith, c.requires.thread.0, c.requires.thread.1) in
    let t = acted_turn c.args.thread c.args.world.now c.turn.new.self c.in-Acted.said c.requires.rests lt c.turn.ensures.kept c.in-Acted.ensures.turns in
    taken_turn c.args.thread c.args.world.now c.turn.new.self (Some c.in-Acted.said) c.args.rows.now c.add_row.new.rows t
    c.in_ok-add_row-in-Acted.ensures

pub returns-in_ok-add_row-in-Acted-clause-acted : goal.returns-in_ok-add_row-in-Acted-clause-acted
returns-in_ok-add_row-in-Acted-clause-acted c =
    let lt : c.args.thread - 1 < length c.args.world.now.frame_views = omega (arith, c.requires.thread.0, c.requires.thread.1) in
    let t = acted_turn c.args.thread c.args.world.now c.turn.new.self c.in-Acted.said c.requires.rests lt c.turn.ensures.kept c.in-Acted.ensures.turns in
    t.acts

pub returns-in_ok-add_row-in-Acted-clause-less : goal.returns-in_ok-add_row-in-Acted-clause-less
returns-in_ok-add_row-in-Acted-clause-less c same =
    let lt : c.args.thread - 1 < length c.args.world.now.frame_views = omega (arith, c.requires.thread.0, c.requires.thread.1) in
    let t = acted_turn c.args.thread c.args.world.now c.turn.new.self c.in-Acted.said c.requires.rests lt c.turn.ensures.kept c.in-Acted.ensures.turns in
    turn_fewer c.args.thread c.args.world.now c.turn.new.self c.in-Acted.said lt t

-- a turn never waits
pub unreachable-requires : goal.unreachable-requires
unreachable-requires c = c.in-Waited.ensures.turns.0

pub returns-in-Done-clause-taken : goal.returns-in-Done-clause-taken
returns-in-Done-clause-taken c =
    let lt : c.args.thread - 1 < length c.args.world.now.frame_views = omega (arith, c.requires.thread.0, c.requires.thread.1) in
    let t = done_turn c.args.thread c.args.world.now c.turn.new.self c.requires.rests lt c.turn.ensures.kept c.in-Done.ensures.turns in
    taken_turn c.args.thread c.args.world.now c.turn.new.self None c.args.rows.now c.args.rows.now t (adds_none c.args.rows.now)

pub returns-in-Done-clause-acted : goal.returns-in-Done-clause-acted
returns-in-Done-clause-acted c =
    let lt : c.args.thread - 1 < length c.args.world.now.frame_views = omega (arith, c.requires.thread.0, c.requires.thread.1) in
    let t = done_turn c.args.thread c.args.world.now c.turn.new.self c.requires.rests lt c.turn.ensures.kept c.in-Done.ensures.turns in
    t.acts
