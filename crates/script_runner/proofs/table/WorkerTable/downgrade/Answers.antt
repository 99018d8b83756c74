use Rattle.std.proofs.Common.{refl, ◌∙◌, subst, ◌<◌, length, sym}
use Rattle.script_runner.proofs.TablePrelude.{bag_of, Downgrades, Owner, TableNow, Weak, IsBelow, IsOwnerAt}
use Rattle.script_runner.proofs.Bringing.{weakly}
use Rattle.script_runner.proofs.Filling.{fits_at, fits_more}
use Rattle.script_runner.proofs.Wholes.{kept, seen}
use Rattle.script_runner.proofs.table.WorkerTable.downgrade.Goals as goal

pub downgrade-requires-clause-holds : goal.downgrade-requires-clause-holds
downgrade-requires-clause-holds g c =
    let s = c.self.inside in fits_at s.desk s.slots.items c.args.from (Owner c.owner_at.result.now) c.self.invariant.fits c.owner_at.ensures

pub assign-requires-clause-bears : goal.assign-requires-clause-bears
assign-requires-clause-bears g c =
    let s = c.self.inside in kept s.domain.now s.desk c.downgrade.new.desk s.pile c.self.invariant.bears c.in-Ok.ensures.keeps

pub assign-requires-clause-fits : goal.assign-requires-clause-fits
assign-requires-clause-fits g c =
    let s = c.self.inside in let e = c.in-Ok.ensures in let of = c.owner_at.result.now in
    fits_more s.desk c.downgrade.new.desk s.slots.items (Weak c.in-Ok.weak) c.self.invariant.fits
    (e.bag ∙ weakly (bag_of s.desk) c.in-Ok.weak of.block of.place e.handle.0 e.handle.1) e.held

pub returns : goal.returns
returns g c =
    let e = c.in-Ok.ensures in let a = c.assign.new in
    subst (λ (t : TableNow g.row.V.Denot). Downgrades t c.args.from c.args.to (seen a.desk a.slots.items a.pile)) c.self.view_is
    record {
      of = c.owner_at.result.now;
      at = c.owner_at.ensures;
      weak = record {
        handle = Weak c.in-Ok.weak;
        between = c.downgrade.new.desk;
        room = subst (λ (t : TableNow g.row.V.Denot). IsBelow t.desk) (sym c.self.view_is) c.requires.below;
        comes = record { weak = c.in-Ok.weak; is = refl; event = (e.handle.0, e.handle.1, e.event) };
        assigns = c.assign.ensures.assigns;
      };
    }

pub owner_at-requires : goal.owner_at-requires
owner_at-requires g c = subst (λ (t : TableNow g.row.V.Denot). IsOwnerAt t.slots c.args.from) (sym c.self.view_is) c.requires.from

pub assign-requires-clause-there : goal.assign-requires-clause-there
assign-requires-clause-there g c = subst (λ (t : TableNow g.row.V.Denot). c.args.to < length t.slots) (sym c.self.view_is) c.requires.to

pub unreachable-requires : goal.unreachable-requires
unreachable-requires g c =
    let below : IsBelow c.self.inside.desk = subst (λ (t : TableNow g.row.V.Denot). IsBelow t.desk) (sym c.self.view_is) c.requires.below in
    below (c.in-Err.ensures.limit.0 refl)
