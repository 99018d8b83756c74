use Rattle.std.proofs.Common.{refl, subst, ◌<◌, length, sym}
use Rattle.script_runner.proofs.TablePrelude.{bears_kept, Owner, TableNow, IsBelow}
use Rattle.script_runner.specs.SlotCalls.{MakesIntoSlot}
use Rattle.script_runner.proofs.Filling.{fits_more}
use Rattle.script_runner.proofs.Wholes.{same_whole, seen}
use Rattle.script_runner.proofs.table.WorkerTable.make.Goals as goal

pub assign-requires-clause-bears : goal.assign-requires-clause-bears
assign-requires-clause-bears g c =
    let s = c.self.inside in let e = c.in-Ok.ensures in
    bears_kept s.domain.now s.desk c.make.new.desk s.pile c.self.invariant.bears e.desk.domain e.desk.shape e.endings e.count

pub assign-requires-clause-fits : goal.assign-requires-clause-fits
assign-requires-clause-fits g c =
    let s = c.self.inside in let e = c.in-Ok.ensures in
    fits_more s.desk c.make.new.desk s.slots.items (Owner c.in-Ok.owner) c.self.invariant.fits e.bag e.held

pub returns-in-Ok-clause-made : goal.returns-in-Ok-clause-made
returns-in-Ok-clause-made g c so =
    let a = c.assign.new in
    subst (λ (t : TableNow g.row.V.Denot). MakesIntoSlot t c.args.to c.args.enabled c.args.fields c.args.value (seen a.desk a.slots.items a.pile))
    c.self.view_is
    record {
      handle = Owner c.in-Ok.owner;
      between = c.make.new.desk;
      room = subst (λ (t : TableNow g.row.V.Denot). IsBelow t.desk) (sym c.self.view_is) c.requires.below;
      comes = record { owner = c.in-Ok.owner; is = refl; event = c.in-Ok.ensures.event };
      assigns = c.assign.ensures.assigns;
    }

pub invariant_of-self-in-Err : goal.invariant_of-self-in-Err
invariant_of-self-in-Err g c =
    let s = c.self.inside in same_whole _ s.domain.now s.desk c.make.new.desk s.slots.items s.pile c.self.invariant c.in-Err.ensures.refused.1

pub assign-requires-clause-there : goal.assign-requires-clause-there
assign-requires-clause-there g c = subst (λ (t : TableNow g.row.V.Denot). c.args.to < length t.slots) (sym c.self.view_is) c.requires.to
