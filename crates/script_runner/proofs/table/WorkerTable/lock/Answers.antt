use Rattle.std.proofs.Common.{◌≡◌, Bool, is_some, sym, refl, ap, ◌∙◌, subst, ◌<◌, length}
use Rattle.script_runner.proofs.TablePrelude.{Owner, TableNow, Weak, IsBelow, IsWeakAt}
use Rattle.shared_handle.specs.Locks as locks
use Rattle.script_runner.specs.SlotCalls.{LocksSlot}
use Rattle.script_runner.proofs.Filling.{fits_at, fits_more}
use Rattle.script_runner.proofs.Wholes.{kept, seen}
use Rattle.script_runner.proofs.table.WorkerTable.lock.Goals as goal

pub lock-requires-clause-holds : goal.lock-requires-clause-holds
lock-requires-clause-holds g c =
    let s = c.self.inside in fits_at s.desk s.slots.items c.args.from (Weak c.weak_at.result.now) c.self.invariant.fits c.weak_at.ensures

pub assign-requires-clause-bears : goal.assign-requires-clause-bears
assign-requires-clause-bears g c =
    let s = c.self.inside in kept s.domain.now s.desk c.lock.new.desk s.pile c.self.invariant.bears c.in-Ok.ensures.keeps

pub assign-requires-clause-fits : goal.assign-requires-clause-fits
assign-requires-clause-fits g c =
    let s = c.self.inside in let e = c.in-Ok.ensures in
    fits_more s.desk c.lock.new.desk s.slots.items (Owner c.in-Ok.owner) c.self.invariant.fits e.bag e.held

pub returns : goal.returns
returns g c =
    let s = c.self.inside in let e = c.in-Ok.ensures in let h = c.in-Ok.owner in let of = c.weak_at.result.now in let a = c.assign.new in
    let got = c.is_some-got.result in
    let told : got ≡ is_some h.block = c.is_some-got.ensures ∙ ap is_some c.block.ensures in
    subst (λ (t : TableNow g.row.V.Denot). LocksSlot t c.args.from c.args.to got (seen a.desk a.slots.items a.pile)) c.self.view_is
    record {
      of = of;
      at = c.weak_at.ensures;
      owner = record {
        handle = Owner h;
        between = c.lock.new.desk;
        room = subst (λ (t : TableNow g.row.V.Denot). IsBelow t.desk) (sym c.self.view_is) c.requires.below;
        comes = record {
          owner = h;
          is = refl;
          event = (
            told,
            subst (λ (b : Bool). locks.IsOwnerOf of.block of.place b h) (sym told) e.handle,
            subst (λ (b : Bool). locks.LocksHandle s.desk of.block of.place b c.lock.new.desk) (sym told) e.lock,
          );
        };
        assigns = c.assign.ensures.assigns;
      };
    }

pub weak_at-requires : goal.weak_at-requires
weak_at-requires g c = subst (λ (t : TableNow g.row.V.Denot). IsWeakAt t.slots c.args.from) (sym c.self.view_is) c.requires.from

pub assign-requires-clause-there : goal.assign-requires-clause-there
assign-requires-clause-there g c = subst (λ (t : TableNow g.row.V.Denot). c.args.to < length t.slots) (sym c.self.view_is) c.requires.to

pub unreachable-requires : goal.unreachable-requires
unreachable-requires g c =
    let below : IsBelow c.self.inside.desk = subst (λ (t : TableNow g.row.V.Denot). IsBelow t.desk) (sym c.self.view_is) c.requires.below in
    below (c.in-Err.ensures.limit.0 refl)
