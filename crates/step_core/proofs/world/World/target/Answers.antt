use Rattle.std.proofs.Common.{ap}
use Rattle.step_core.proofs.Prelude.{WorldState}
use Rattle.step_core.proofs.telling.Targets.{target_now}
use Rattle.step_core.proofs.world.World.target.Goals as goal

pub returns-clause-within : goal.returns-clause-within
returns-clause-within c =
    target_now c.args.self.now c.self.inside.table c.args.cell c.target.result c.assert_invariant.ensures (ap (λ (u : WorldState). u.ghost_state)
    c.self.view_is) c.target.ensures c.requires
