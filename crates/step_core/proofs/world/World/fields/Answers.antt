use Rattle.std.proofs.Common.{ap}
use Rattle.step_core.proofs.Prelude.{WorldState}
use Rattle.step_core.proofs.telling.Fields.{fields_now, no_fields}
use Rattle.step_core.proofs.world.World.fields.Goals as goal

pub returns-then-is_none : goal.returns-then-is_none
returns-then-is_none c =
    no_fields c.args.self.now.ghost_state c.args.block.0 c.census.result c.is_none.result c.census.ensures.counts c.is_none.ensures c.if-is_none.true

pub returns : goal.returns
returns c =
    fields_now c.args.self.now c.self.inside.table c.args.block c.word.result c.word-2.result c.word-3.result c.word-4.result c.census.result
    c.is_none.result (ap (λ (u : WorldState). u.ghost_state) c.self.view_is) c.assert_invariant.ensures c.census.ensures.counts c.is_none.ensures
    c.if-is_none.false c.word.ensures c.word-2.ensures c.word-3.ensures c.word-4.ensures
