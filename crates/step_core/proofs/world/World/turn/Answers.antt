use Rattle.std.proofs.Common.{ℕ, ◌-◌, subst}
use Rattle.step_core.proofs.Prelude.{AllHold, GoesTo, TakesWholeTurn}
use Rattle.step_core.proofs.runs.Extents.{extent_goes}
use Rattle.step_core.proofs.runs.Taking.{all_hold}
use Rattle.step_core.proofs.turning.Chains.{more_steps}
use Rattle.step_core.proofs.turning.Turns.{turns}
use Rattle.step_core.proofs.world.World.turn.Goals as goal

pub returns-clause-turns : goal.returns-clause-turns
returns-clause-turns c =
    subst (λ (n : ℕ). TakesWholeTurn (n - 1) c.args.self.now c.act-turned.result c.rest-2.new.self) c.from-number.ensures
    (turns _ c.args.self.now c.rest.new.self c.act-turned.new.self c.rest-2.new.self c.act-turned.result
    c.rest.ensures.goes c.rest.ensures.rests c.act-turned.ensures.plays
    c.rest-2.ensures.rests)

pub returns-clause-steps : goal.returns-clause-steps
returns-clause-steps c =
    subst (λ (n : ℕ). GoesTo (n - 1) c.args.self.now c.rest-2.new.self) c.from-number.ensures
    (more_steps _ c.args.self.now c.rest.new.self c.rest-2.new.self c.rest.ensures.goes
    (more_steps _ c.rest.new.self c.act-turned.new.self c.rest-2.new.self c.act-turned.ensures.goes
    c.rest-2.ensures.goes))

pub returns-clause-extent : goal.returns-clause-extent
returns-clause-extent c =
    let g = returns-clause-steps c in extent_goes (c.args.actor - 1) c.args.self.now c.rest-2.new.self g

pub returns-clause-hands : goal.returns-clause-hands
returns-clause-hands c =
    subst AllHold c.self.view_is (all_hold c.self.inside.table c.self.inside.threads.items c.self.invariant.0)
