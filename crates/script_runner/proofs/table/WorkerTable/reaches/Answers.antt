use Rattle.std.proofs.Common.{sym, subst}
use Rattle.script_runner.proofs.TablePrelude.{IsInReach, TableNow}
use Rattle.script_runner.specs.Cells.{NamesCell}
use Rattle.script_runner.proofs.table.WorkerTable.reaches.Goals as goal

pub find-requires-clause-reach : goal.find-requires-clause-reach
find-requires-clause-reach g c = subst (λ (t : TableNow g.row.V.Denot). IsInReach t.desk.shape t.slots c.args.cell) (sym c.self.view_is) c.requires.reach

pub returns-in-Ok-clause-there : goal.returns-in-Ok-clause-there
returns-in-Ok-clause-there g c =
    subst (λ (t : TableNow g.row.V.Denot). NamesCell t c.args.cell) c.self.view_is (c.in-Ok.field-0.site, c.in-Ok.ensures.found.0)
