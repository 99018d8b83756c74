use Rattle.std.proofs.Common.{refl, ap, ◌∙◌, subst, ◌<◌, length, sym}
use Rattle.script_runner.proofs.TablePrelude.{DeskNow, Owner, SharesThis, TableNow, IsOwnerAt}
use Rattle.script_runner.specs.This.{IsNoThis}
use Rattle.script_runner.proofs.Bringing.{this_below}
use Rattle.script_runner.proofs.Filling.{fits_at, fits_more}
use Rattle.script_runner.proofs.Wholes.{kept, same_whole, seen}
use Rattle.script_runner.proofs.table.WorkerTable.shared_from_this.Goals as goal

pub shared_from_this-requires-clause-holds : goal.shared_from_this-requires-clause-holds
shared_from_this-requires-clause-holds g c =
    let s = c.self.inside in fits_at s.desk s.slots.items c.args.of (Owner c.owner_at.result.now) c.self.invariant.fits c.owner_at.ensures

pub assign-requires-clause-bears : goal.assign-requires-clause-bears
assign-requires-clause-bears g c =
    let s = c.self.inside in kept s.domain.now s.desk c.shared_from_this.new.desk s.pile c.self.invariant.bears c.in-Ok.ensures.keeps

pub assign-requires-clause-fits : goal.assign-requires-clause-fits
assign-requires-clause-fits g c =
    let s = c.self.inside in let e = c.in-Ok.ensures in
    fits_more s.desk c.shared_from_this.new.desk s.slots.items (Owner c.in-Ok.this) c.self.invariant.fits e.bag e.held

pub returns-in-Ok-clause-shared : goal.returns-in-Ok-clause-shared
returns-in-Ok-clause-shared g c =
    let e = c.in-Ok.ensures in let a = c.assign.new in let of = c.owner_at.result.now in
    subst (λ (t : TableNow g.row.V.Denot). SharesThis t c.args.of c.args.to (seen a.desk a.slots.items a.pile)) c.self.view_is
    record {
      of = of;
      at = c.owner_at.ensures;
      may = e.may;
      this = record {
        handle = Owner c.in-Ok.this;
        between = c.shared_from_this.new.desk;
        room = this_below c.self.inside.desk of.block of.place e.may;
        comes = record { owner = c.in-Ok.this; is = refl; event = (e.handle.0, e.handle.1, e.event) };
        assigns = c.assign.ensures.assigns;
      };
    }

pub invariant_of-self-in-Err : goal.invariant_of-self-in-Err
invariant_of-self-in-Err g c =
    let s = c.self.inside in same_whole _ s.domain.now s.desk c.shared_from_this.new.desk s.slots.items s.pile c.self.invariant c.in-Err.ensures.refused.1

pub returns-in-Err-clause-refused : goal.returns-in-Err-clause-refused
returns-in-Err-clause-refused g c =
    let s = c.self.inside in let e = c.in-Err.ensures.refused in (
      subst (λ (t : TableNow g.row.V.Denot). IsNoThis t c.args.of c.in-Err.why) c.self.view_is (c.owner_at.result.now, c.owner_at.ensures, e.0),
      ap (λ (d : DeskNow g.row.V.Denot). seen d s.slots.items s.pile) e.1 ∙ c.self.view_is,
    )

pub owner_at-requires : goal.owner_at-requires
owner_at-requires g c = subst (λ (t : TableNow g.row.V.Denot). IsOwnerAt t.slots c.args.of) (sym c.self.view_is) c.requires.of

pub assign-requires-clause-there : goal.assign-requires-clause-there
assign-requires-clause-there g c = subst (λ (t : TableNow g.row.V.Denot). c.args.to < length t.slots) (sym c.self.view_is) c.requires.to
