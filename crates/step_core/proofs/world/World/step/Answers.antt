use Rattle.std.proofs.Common.{ℕ, ◌-◌, subst}
use Rattle.step_core.proofs.Prelude.{Performs, TakesStep}
use Rattle.step_core.proofs.runs.Extents.{extent_step}
use Rattle.step_core.proofs.world.World.step.Goals as goal

pub returns-clause-extent : goal.returns-clause-extent
returns-clause-extent c = extent_step (c.from.result - 1) c.args.self.now c.advance.new.self c.advance.result c.advance.ensures.steps

pub returns-clause-takes : goal.returns-clause-takes
returns-clause-takes c =
    subst (λ (n : ℕ). TakesStep (n - 1) c.args.self.now c.advance.result c.advance.new.self) c.from.ensures c.advance.ensures.advances.takes

pub returns-clause-performs : goal.returns-clause-performs
returns-clause-performs c =
    subst (λ (n : ℕ). Performs (n - 1) c.args.self.now c.advance.result c.advance.new.self) c.from.ensures c.advance.ensures.advances.performs
