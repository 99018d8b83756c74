use Rattle.std.proofs.Common.{refl, subst, ◌<◌, length, sym}
use Rattle.script_runner.proofs.TablePrelude.{Owner, TableNow, Weak, IsBelow, IsWeakAt}
use Rattle.script_runner.specs.Handles.{GivesNoOwner, Upgrades}
use Rattle.script_runner.proofs.Bringing.{bad_weak}
use Rattle.script_runner.proofs.Filling.{fits_at, fits_more}
use Rattle.script_runner.proofs.Wholes.{kept, seen, still}
use Rattle.script_runner.proofs.table.WorkerTable.upgrade.Goals as goal

pub upgrade-requires-clause-holds : goal.upgrade-requires-clause-holds
upgrade-requires-clause-holds g c =
    let s = c.self.inside in fits_at s.desk s.slots.items c.args.from (Weak c.weak_at.result.now) c.self.invariant.fits c.weak_at.ensures

pub assign-requires-clause-bears : goal.assign-requires-clause-bears
assign-requires-clause-bears g c =
    let s = c.self.inside in kept s.domain.now s.desk c.upgrade.new.desk s.pile c.self.invariant.bears c.in-Ok.ensures.keeps

pub assign-requires-clause-fits : goal.assign-requires-clause-fits
assign-requires-clause-fits g c =
    let s = c.self.inside in let e = c.in-Ok.ensures in
    fits_more s.desk c.upgrade.new.desk s.slots.items (Owner c.in-Ok.owner) c.self.invariant.fits e.bag e.held

pub returns-in-Ok-clause-upgraded : goal.returns-in-Ok-clause-upgraded
returns-in-Ok-clause-upgraded g c so =
    let a = c.assign.new in
    subst (λ (t : TableNow g.row.V.Denot). Upgrades t c.args.from c.args.to (seen a.desk a.slots.items a.pile)) c.self.view_is
    record {
      of = c.weak_at.result.now;
      at = c.weak_at.ensures;
      owner = record {
        handle = Owner c.in-Ok.owner;
        between = c.upgrade.new.desk;
        room = subst (λ (t : TableNow g.row.V.Denot). IsBelow t.desk) (sym c.self.view_is) c.requires.below;
        comes = record { owner = c.in-Ok.owner; is = refl; event = c.in-Ok.ensures.upgrade };
        assigns = c.assign.ensures.assigns;
      };
    }

pub invariant_of-self-in-Err : goal.invariant_of-self-in-Err
invariant_of-self-in-Err g c =
    let s = c.self.inside in let e = c.in-Err.ensures in
    still _ _ s.desk c.upgrade.new.desk s.slots.items s.pile c.self.invariant e.keeps e.refused.0 e.refused.1

pub returns-in-Err-clause-none : goal.returns-in-Err-clause-none
returns-in-Err-clause-none g c so =
    let s = c.self.inside in let of = c.weak_at.result.now in let u = seen c.upgrade.new.desk s.slots.items s.pile in
    subst (λ (t : TableNow g.row.V.Denot). GivesNoOwner t c.args.from u) c.self.view_is
    record {
      of = of;
      at = c.weak_at.ensures;
      event = bad_weak s.desk c.upgrade.new.desk of.block of.place c.in-Err.field-0
          (subst (λ (t : TableNow g.row.V.Denot). IsBelow t.desk) (sym c.self.view_is) c.requires.below) c.in-Err.ensures.upgrade;
      rest = (refl, refl);
    }

pub weak_at-requires : goal.weak_at-requires
weak_at-requires g c = subst (λ (t : TableNow g.row.V.Denot). IsWeakAt t.slots c.args.from) (sym c.self.view_is) c.requires.from

pub assign-requires-clause-there : goal.assign-requires-clause-there
assign-requires-clause-there g c = subst (λ (t : TableNow g.row.V.Denot). c.args.to < length t.slots) (sym c.self.view_is) c.requires.to
