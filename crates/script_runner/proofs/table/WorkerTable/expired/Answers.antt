use Rattle.std.proofs.Common.{refl, subst, sym}
use Rattle.script_runner.proofs.TablePrelude.{TableNow, Weak, IsWeakAt}
use Rattle.script_runner.specs.SlotCalls.{Expires}
use Rattle.script_runner.proofs.Filling.{fits_at}
use Rattle.script_runner.proofs.Wholes.{seen, still}
use Rattle.script_runner.proofs.table.WorkerTable.expired.Goals as goal

pub expired-requires-clause-holds : goal.expired-requires-clause-holds
expired-requires-clause-holds g c =
    let s = c.self.inside in fits_at s.desk s.slots.items c.args.at (Weak c.weak_at.result.now) c.self.invariant.fits c.weak_at.ensures

pub invariant_of-self : goal.invariant_of-self
invariant_of-self g c =
    let s = c.self.inside in let e = c.expired.ensures in
    still _ _ s.desk c.expired.new.desk s.slots.items s.pile c.self.invariant e.keeps e.bag e.held

pub returns : goal.returns
returns g c =
    let s = c.self.inside in
    subst (λ (t : TableNow g.row.V.Denot). Expires t c.args.at c.expired.result (seen c.expired.new.desk s.slots.items s.pile)) c.self.view_is
    record { of = c.weak_at.result.now; was = c.weak_at.ensures; event = c.expired.ensures.expired; rest = (refl, refl) }

pub weak_at-requires : goal.weak_at-requires
weak_at-requires g c = subst (λ (t : TableNow g.row.V.Denot). IsWeakAt t.slots c.args.at) (sym c.self.view_is) c.requires
