use Rattle.std.proofs.Common.{refl, subst, ◌<◌, length, sym}
use Rattle.script_runner.proofs.TablePrelude.{Weak, TableNow, IsBelow}
use Rattle.script_runner.specs.Handles.{EmptiesSlotWeakly}
use Rattle.script_runner.proofs.Emptied.{bears_counted, fits_empty_weak}
use Rattle.script_runner.proofs.Wholes.{seen}
use Rattle.script_runner.proofs.table.WorkerTable.empty_weak.Goals as goal

pub assign-requires-clause-bears : goal.assign-requires-clause-bears
assign-requires-clause-bears g c =
    let s = c.self.inside in bears_counted s.domain.now s.desk c.empty_weak.new.desk s.pile c.self.invariant.bears c.in-Ok.ensures.counted

pub assign-requires-clause-fits : goal.assign-requires-clause-fits
assign-requires-clause-fits g c =
    let s = c.self.inside in let e = c.in-Ok.ensures in
    fits_empty_weak s.desk c.empty_weak.new.desk s.slots.items c.in-Ok.weak c.self.invariant.fits e.handle.0 e.counted

pub returns : goal.returns
returns g c =
    let e = c.in-Ok.ensures in let a = c.assign.new in
    subst (λ (t : TableNow g.row.V.Denot). EmptiesSlotWeakly t c.args.to (seen a.desk a.slots.items a.pile)) c.self.view_is
    record {
      handle = Weak c.in-Ok.weak;
      between = c.empty_weak.new.desk;
      room = subst (λ (t : TableNow g.row.V.Denot). IsBelow t.desk) (sym c.self.view_is) c.requires.below;
      comes = record { weak = c.in-Ok.weak; is = refl; event = (e.handle.0, e.handle.1, e.counted) };
      assigns = c.assign.ensures.assigns;
    }

pub assign-requires-clause-there : goal.assign-requires-clause-there
assign-requires-clause-there g c = subst (λ (t : TableNow g.row.V.Denot). c.args.to < length t.slots) (sym c.self.view_is) c.requires.to

pub unreachable-requires : goal.unreachable-requires
unreachable-requires g c =
    let below : IsBelow c.self.inside.desk = subst (λ (t : TableNow g.row.V.Denot). IsBelow t.desk) (sym c.self.view_is) c.requires.below in
    below (c.in-Err.ensures.limit.0 refl)
