use Rattle.step_table.proofs.tables.Standing.{kept_now}
use Rattle.step_table.proofs.memory.table.Table.assert_invariant.Goals as goal

pub returns : goal.returns
returns c = kept_now _ _ _ _ c.args.self.now c.self.invariant c.self.view_is
