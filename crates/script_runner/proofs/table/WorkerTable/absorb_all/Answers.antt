use Rattle.std.proofs.Common.{arith}
use Rattle.script_runner.proofs.TablePrelude.{nil_from_length}
use Rattle.script_runner.proofs.Absorbing.{all_gone, begins, goes}
use Rattle.script_runner.proofs.table.WorkerTable.absorb_all.Goals as goal

pub loop-table-init : goal.loop-table-init
loop-table-init g c = begins c.args.self.now c.args.tables.items

pub loop-table-preserved : goal.loop-table-preserved
loop-table-preserved g c = goes _ _ _ _ _ _ c.in-Some.table c.loop-table.invariant c.in-Some.ensures.items c.absorb.ensures

pub returns : goal.returns
returns g c =
    all_gone c.args.self.now c.loop-table.self c.args.tables.items c.loop-table.tables.items c.loop-table.invariant
    (nil_from_length c.loop-table.tables.items (let n = c.loop-table.tables.ok.0 in let m = c.in_default.ensures.cases.0 in omega arith))
