use Rattle.std.proofs.Common.{◌≡◌, None, Option, sym, subst}
use Rattle.step_core.proofs.Prelude.{Counts, IsVacant, model_state, TableInvariant, WorldState}
use Rattle.step_core.proofs.telling.Census.{census_now, none_vacant}
use Rattle.step_core.proofs.world.World.census.Goals as goal

pub returns-clause-counts : goal.returns-clause-counts
returns-clause-counts c =
    census_now c.args.self.now c.self.inside.table c.self.inside.threads.items c.self.inside.made c.self.inside.ended c.args.block.0 c.word.result
    c.word-2.result c.counted.result c.self.view_is c.self.invariant.0 c.self.invariant.1 c.assert_invariant.ensures c.requires.end c.requires.some
    c.requires.within c.word.ensures c.word-2.ensures c.counted.ensures

pub returns-clause-vacant : goal.returns-clause-vacant
returns-clause-vacant c =
    let e = census_now c.args.self.now c.self.inside.table c.self.inside.threads.items c.self.inside.made c.self.inside.ended c.args.block.0
    c.word.result c.word-2.result c.counted.result c.self.view_is c.self.invariant.0 c.self.invariant.1 c.assert_invariant.ensures c.requires.end
    c.requires.some c.requires.within c.word.ensures c.word-2.ensures c.counted.ensures in
    let s = model_state c.args.self.now.ghost_state in
    let b = c.args.block.0 in
    subst (λ (r : Option Counts). (r ≡ None → IsVacant s b) × (IsVacant s b → r ≡ None)) (sym e)
    (none_vacant c.args.self.now.ghost_state b (subst (λ (u : WorldState). TableInvariant u.ghost_state) c.self.view_is c.assert_invariant.ensures))
