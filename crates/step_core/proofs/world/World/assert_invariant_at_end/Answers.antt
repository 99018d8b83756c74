use Rattle.std.proofs.Common.{subst}
use Rattle.step_core.proofs.Prelude.{TableInvariant, WorldState}
use Rattle.step_core.proofs.runs.Hands.{hands_now}
use Rattle.step_core.proofs.world.World.assert_invariant_at_end.Goals as goal

pub returns-clause-kept : goal.returns-clause-kept
returns-clause-kept c = subst (λ (u : WorldState). TableInvariant u.ghost_state) c.self.view_is c.assert_invariant.ensures

pub returns-clause-hands : goal.returns-clause-hands
returns-clause-hands c =
    hands_now c.args.self.now c.self.inside.table c.self.inside.threads.items c.self.inside.made c.self.inside.ended c.self.view_is c.self.invariant.0
    c.self.invariant.1 c.assert_invariant.ensures c.requires
