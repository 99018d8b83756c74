use Rattle.std.proofs.Common.{sym, ◌∙◌, subst, ◌<◌, length}
use Rattle.script_runner.proofs.TablePrelude.{block_of_held, cell_of_site, Kind, LoadsIntoSlot, place_of_held, TableNow, IsBelow, IsInReach}
use Rattle.atomic_cells.specs.Cells as cells
use Rattle.script_runner.proofs.Filling.{fits_more}
use Rattle.script_runner.proofs.Wholes.{kept, seen}
use Rattle.script_runner.proofs.table.WorkerTable.load.Goals as goal

pub assign-requires-clause-bears : goal.assign-requires-clause-bears
assign-requires-clause-bears g c =
    let s = c.self.inside in let m = c.load_held-found in kept s.domain.now s.desk m.new.desk s.pile c.self.invariant.bears m.ensures.keeps

pub assign-requires-clause-fits : goal.assign-requires-clause-fits
assign-requires-clause-fits g c =
    let s = c.self.inside in let m = c.load_held-found in
    fits_more s.desk m.new.desk s.slots.items m.result c.self.invariant.fits m.ensures.bag m.ensures.held

pub returns-in-Ok-clause-loaded : goal.returns-in-Ok-clause-loaded
returns-in-Ok-clause-loaded g c =
    let s = c.self.inside in let m = c.load_held-found in let a = c.assign.new in let at = c.in-Ok.at in let k = c.in-Ok.ensures.found.1 in
    subst (λ (t : TableNow g.row.V.Denot). LoadsIntoSlot t c.args.cell c.args.to (seen a.desk a.slots.items a.pile)) c.self.view_is
    record {
      site = at.site;
      is = c.in-Ok.ensures.found.0;
      loads = record {
        handle = m.result;
        between = m.new.desk;
        room = subst (λ (t : TableNow g.row.V.Denot). IsBelow t.desk) (sym c.self.view_is) c.requires.below;
        comes = (
          m.ensures.kind ∙ k,
          subst (λ (z : Kind). cells.Loads s.desk (cell_of_site s.desk at.site) z (block_of_held m.result) (place_of_held m.result) m.new.desk) k
              m.ensures.event,
        );
        assigns = c.assign.ensures.assigns;
      };
    }

pub find-requires-clause-reach : goal.find-requires-clause-reach
find-requires-clause-reach g c = subst (λ (t : TableNow g.row.V.Denot). IsInReach t.desk.shape t.slots c.args.cell) (sym c.self.view_is) c.requires.reach

pub assign-requires-clause-there : goal.assign-requires-clause-there
assign-requires-clause-there g c = subst (λ (t : TableNow g.row.V.Denot). c.args.to < length t.slots) (sym c.self.view_is) c.requires.to

pub load_held-found-requires-clause-below : goal.load_held-found-requires-clause-below
load_held-found-requires-clause-below g c = subst (λ (t : TableNow g.row.V.Denot). IsBelow t.desk) (sym c.self.view_is) c.requires.below
