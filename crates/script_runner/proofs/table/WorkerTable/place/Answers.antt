use Rattle.std.proofs.Common.{subst, sym}
use Rattle.script_runner.proofs.TablePrelude.{TableNow, IsOwnerAt}
use Rattle.script_runner.specs.SlotCalls.{PointsTo}
use Rattle.script_runner.proofs.table.WorkerTable.place.Goals as goal

pub returns : goal.returns
returns g c =
    subst (λ (t : TableNow g.row.V.Denot). PointsTo t c.args.at c.place.result) c.self.view_is
    (c.owner_at.result.now, c.owner_at.ensures, c.place.ensures)

pub owner_at-requires : goal.owner_at-requires
owner_at-requires g c = subst (λ (t : TableNow g.row.V.Denot). IsOwnerAt t.slots c.args.at) (sym c.self.view_is) c.requires
