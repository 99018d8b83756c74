use Rattle.std.proofs.Common.{List, ◌∷◌, Some, sym, ◌∙◌, subst}
use Rattle.script_runner.proofs.TablePrelude.{Assigns, block_of_held, cell_of_site, FitsSlots, IsKindAt, IsInReach}
use Rattle.script_runner.proofs.TablePrelude.{Kind, kind_at, on_pile, place_of_held, Slot}
use Rattle.script_runner.proofs.TablePrelude.{TableNow}
use Rattle.atomic_cells.specs.Cells as cells
use Rattle.script_runner.specs.Cells.{ExchangesSlot}
use Rattle.script_runner.proofs.Compared.{kind_there}
use Rattle.script_runner.proofs.Filling.{fits_at, fits_exchange, fits_out, slot_there}
use Rattle.script_runner.proofs.Wholes.{kept, seen}
use Rattle.script_runner.proofs.table.WorkerTable.exchange.Goals as goal

pub exchange_held-old-requires-clause-held : goal.exchange_held-old-requires-clause-held
exchange_held-old-requires-clause-held g c =
    let s = c.self.inside in let h = c.take_handle-new in let k = kind_at c.args.cell in
    let there : IsKindAt k s.slots.items c.args.at =
    subst (λ (t : TableNow g.row.V.Denot). IsKindAt k t.slots c.args.at) (sym c.self.view_is) c.requires.at in (
      fits_at s.desk s.slots.items c.args.at h.result c.self.invariant.fits h.ensures.0,
      kind_there s.slots.items c.args.at k h.result there h.ensures.0 ∙ sym c.in-Ok.ensures.found.1,
    )

pub assign-requires-clause-bears : goal.assign-requires-clause-bears
assign-requires-clause-bears g c =
    let s = c.self.inside in let m = c.exchange_held-old in kept s.domain.now s.desk m.new.desk s.pile c.self.invariant.bears m.ensures.keeps

pub assign-requires-clause-fits : goal.assign-requires-clause-fits
assign-requires-clause-fits g c =
    let s = c.self.inside in let h = c.take_handle-new in let m = c.exchange_held-old in
    subst (λ (l : List Slot). FitsSlots m.new.desk (Some m.result ∷ l)) (sym h.ensures.1)
    (fits_exchange s.desk m.new.desk _ h.result m.result (fits_out s.desk s.slots.items c.args.at h.result c.self.invariant.fits h.ensures.0)
    m.ensures.bag m.ensures.held)

pub assign-requires-clause-there : goal.assign-requires-clause-there
assign-requires-clause-there g c =
    let h = c.take_handle-new in slot_there c.self.inside.slots.items h.new.slots.items c.args.at h.result h.ensures.0 h.ensures.1

pub returns-in-Ok-clause-exchanged : goal.returns-in-Ok-clause-exchanged
returns-in-Ok-clause-exchanged g c =
    let s = c.self.inside in let h = c.take_handle-new in let m = c.exchange_held-old in let a = c.assign.new in let site = c.in-Ok.site in
    let k = c.in-Ok.ensures.found.1 in let z = kind_at c.args.cell in
    let there : IsKindAt z s.slots.items c.args.at = subst (λ (t : TableNow g.row.V.Denot). IsKindAt z t.slots c.args.at) (sym c.self.view_is) c.requires.at in
    subst (λ (t : TableNow g.row.V.Denot). ExchangesSlot t c.args.at c.args.cell (seen a.desk a.slots.items a.pile)) c.self.view_is
    record {
      old = m.result;
      between = m.new.desk;
      swaps = record {
        site = site.site;
        is = c.in-Ok.ensures.found.0;
        of = h.result;
        at = h.ensures.0;
        kinds = (kind_there s.slots.items c.args.at z h.result there h.ensures.0, m.ensures.kind ∙ k);
        exchanges = subst (λ (y : Kind). cells.Exchanges s.desk (cell_of_site s.desk site.site) y (block_of_held h.result) (place_of_held h.result)
            (block_of_held m.result) (place_of_held m.result) m.new.desk) k m.ensures.event;
      };
      assigns = subst (λ (l : List Slot). Assigns m.new.desk l (on_pile s.pile) c.args.at m.result a.desk a.slots.items (on_pile a.pile)) h.ensures.1
          c.assign.ensures.assigns;
    }

pub find-requires-clause-reach : goal.find-requires-clause-reach
find-requires-clause-reach g c = subst (λ (t : TableNow g.row.V.Denot). IsInReach t.desk.shape t.slots c.args.cell) (sym c.self.view_is) c.requires.reach

pub take_handle-new-requires : goal.take_handle-new-requires
take_handle-new-requires g c =
    let at = subst (λ (t : TableNow g.row.V.Denot). IsKindAt (kind_at c.args.cell) t.slots c.args.at) (sym c.self.view_is) c.requires.at in (at.0, at.1)
