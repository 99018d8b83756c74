use Rattle.std.proofs.Common.{sym, refl, subst}
use Rattle.script_runner.proofs.TablePrelude.{IsOwnerAt, Owner, TableNow}
use Rattle.script_runner.specs.SlotCalls.{ReadsSlot}
use Rattle.script_runner.proofs.Filling.{fits_at}
use Rattle.script_runner.proofs.Wholes.{seen, still}
use Rattle.script_runner.proofs.table.WorkerTable.read.Goals as goal

pub owner_at-requires : goal.owner_at-requires
owner_at-requires g c = subst (λ (t : TableNow g.row.V.Denot). IsOwnerAt t.slots c.args.at) (sym c.self.view_is) c.requires

pub read-requires-clause-holds : goal.read-requires-clause-holds
read-requires-clause-holds g c =
    let s = c.self.inside in fits_at s.desk s.slots.items c.args.at (Owner c.owner_at.result.now) c.self.invariant.fits c.owner_at.ensures

pub invariant_of-self : goal.invariant_of-self
invariant_of-self g c =
    let s = c.self.inside in let e = c.read.ensures in still _ _ s.desk c.read.new.desk s.slots.items s.pile c.self.invariant e.keeps e.bag e.held

pub returns : goal.returns
returns g c =
    let s = c.self.inside in
    subst (λ (t : TableNow g.row.V.Denot). ReadsSlot t c.args.at c.read.result (seen c.read.new.desk s.slots.items s.pile)) c.self.view_is
    record { of = c.owner_at.result.now; was = c.owner_at.ensures; event = c.read.ensures.read; rest = (refl, refl) }
