use Rattle.std.proofs.Common.{◌≡◌, Option, sym, refl, ◌∙◌, subst, inr, ◌<◌, length}
use Rattle.script_runner.proofs.TablePrelude.{Aliases, bag_of, Owner, Place, SharesOwner, TableNow, with_handle, IsBelow, IsOwnerAt}
use Rattle.control_word.specs.declared.model.handle.Kind.TheVariants as kind
use Rattle.shared_handle.specs.Calls.{pointed}
use Rattle.script_runner.proofs.Filling.{fits_at, fits_more}
use Rattle.script_runner.proofs.Wholes.{kept, seen}
use Rattle.script_runner.proofs.table.WorkerTable.alias.Goals as goal

pub alias-requires-clause-holds : goal.alias-requires-clause-holds
alias-requires-clause-holds g c =
    let s = c.self.inside in fits_at s.desk s.slots.items c.args.of (Owner c.owner_at.result.now) c.self.invariant.fits c.owner_at.ensures

pub assign-requires-clause-bears : goal.assign-requires-clause-bears
assign-requires-clause-bears g c =
    let s = c.self.inside in kept s.domain.now s.desk c.alias.new.desk s.pile c.self.invariant.bears c.in-Ok.ensures.keeps

pub assign-requires-clause-fits : goal.assign-requires-clause-fits
assign-requires-clause-fits g c =
    let s = c.self.inside in let e = c.in-Ok.ensures in
    fits_more s.desk c.alias.new.desk s.slots.items (Owner c.in-Ok.owner) c.self.invariant.fits
    (e.bag ∙ (λ i. with_handle kind.Owner (sym e.handle.0 i) (sym e.handle.1 i) (bag_of s.desk))) e.held

pub returns : goal.returns
returns g c =
    let e = c.in-Ok.ensures in let a = c.assign.new in let of = c.owner_at.result.now in
    let same : pointed c.args.place ≡ c.args.place = e.given (inr (inr c.requires.place)) in
    subst (λ (t : TableNow g.row.V.Denot). Aliases t c.args.of c.args.place c.args.to (seen a.desk a.slots.items a.pile)) c.self.view_is
    record {
      of = of;
      at = c.owner_at.ensures;
      copy = record {
        handle = Owner c.in-Ok.owner;
        between = c.alias.new.desk;
        room = subst (λ (t : TableNow g.row.V.Denot). IsBelow t.desk) (sym c.self.view_is) c.requires.below;
        comes = record {
          owner = c.in-Ok.owner;
          is = refl;
          event = (
            e.handle.0,
            e.handle.1 ∙ same,
            subst (λ (p : Option Place). SharesOwner c.self.inside.desk of.block of.place p c.alias.new.desk) same e.event,
          );
        };
        assigns = c.assign.ensures.assigns;
      };
    }

pub owner_at-requires : goal.owner_at-requires
owner_at-requires g c = subst (λ (t : TableNow g.row.V.Denot). IsOwnerAt t.slots c.args.of) (sym c.self.view_is) c.requires.of

pub assign-requires-clause-there : goal.assign-requires-clause-there
assign-requires-clause-there g c = subst (λ (t : TableNow g.row.V.Denot). c.args.to < length t.slots) (sym c.self.view_is) c.requires.to

pub unreachable-requires : goal.unreachable-requires
unreachable-requires g c =
    let below : IsBelow c.self.inside.desk = subst (λ (t : TableNow g.row.V.Denot). IsBelow t.desk) (sym c.self.view_is) c.requires.below in
    below (c.in-Err.ensures.limit.0 refl)
