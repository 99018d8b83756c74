use Rattle.std.proofs.Common.{refl, subst, sym}
use Rattle.script_runner.proofs.TablePrelude.{TableNow, IsHandleAt}
use Rattle.script_runner.specs.SlotCalls.{CountsSlot}
use Rattle.script_runner.proofs.Filling.{fits_at}
use Rattle.script_runner.proofs.Wholes.{seen, still}
use Rattle.script_runner.proofs.table.WorkerTable.use_count.Goals as goal

pub count_of-requires-clause-held : goal.count_of-requires-clause-held
count_of-requires-clause-held g c =
    let s = c.self.inside in fits_at s.desk s.slots.items c.args.at c.handle_at.result.now c.self.invariant.fits c.handle_at.ensures

pub invariant_of-self : goal.invariant_of-self
invariant_of-self g c =
    let s = c.self.inside in let e = c.count_of.ensures in
    still _ _ s.desk c.count_of.new.desk s.slots.items s.pile c.self.invariant e.keeps e.bag e.held

pub returns : goal.returns
returns g c =
    let s = c.self.inside in
    subst (λ (t : TableNow g.row.V.Denot). CountsSlot t c.args.at c.count_of.result (seen c.count_of.new.desk s.slots.items s.pile)) c.self.view_is
    record { of = c.handle_at.result.now; was = c.handle_at.ensures; event = c.count_of.ensures.count; rest = (refl, refl) }

pub handle_at-requires : goal.handle_at-requires
handle_at-requires g c = subst (λ (t : TableNow g.row.V.Denot). IsHandleAt t.slots c.args.at) (sym c.self.view_is) c.requires
