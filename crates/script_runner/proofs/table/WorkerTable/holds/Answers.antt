use Rattle.std.proofs.Common.{sym, refl, ◌∙◌, subst}
use Rattle.script_runner.proofs.TablePrelude.{block_of_held, cell_of_site, IsKindAt, kind_at, place_of_held, TableNow, IsInReach}
use Rattle.atomic_cells.specs.Cells as cells
use Rattle.script_runner.specs.Cells.{TellsSlotHeld}
use Rattle.script_runner.proofs.CellSites.{by_parts}
use Rattle.script_runner.proofs.Compared.{content_held, kind_there}
use Rattle.script_runner.proofs.Wholes.{seen, still}
use Rattle.script_runner.proofs.table.WorkerTable.holds.Goals as goal

pub holds_held-requires-clause-holds : goal.holds_held-requires-clause-holds
holds_held-requires-clause-holds g c =
    let s = c.self.inside in let h = c.handle_at in let x = c.content_of-expected in let k = kind_at c.args.cell in
    let there : IsKindAt k s.slots.items c.args.at = subst (λ (t : TableNow g.row.V.Denot). IsKindAt k t.slots c.args.at) (sym c.self.view_is) c.requires.at in
    content_held s.desk s.slots.items c.args.at h.result.now x.result c.in-Ok.site.kind c.self.invariant.fits h.ensures x.ensures
    (sym x.ensures.0 ∙ (kind_there s.slots.items c.args.at k h.result.now there h.ensures ∙ sym c.in-Ok.ensures.found.1))

pub holds_held-requires-clause-kind : goal.holds_held-requires-clause-kind
holds_held-requires-clause-kind g c =
    let s = c.self.inside in let h = c.handle_at in let x = c.content_of-expected in let k = kind_at c.args.cell in
    let there : IsKindAt k s.slots.items c.args.at = subst (λ (t : TableNow g.row.V.Denot). IsKindAt k t.slots c.args.at) (sym c.self.view_is) c.requires.at in
    sym x.ensures.0 ∙ (kind_there s.slots.items c.args.at k h.result.now there h.ensures ∙ sym c.in-Ok.ensures.found.1)

pub invariant_of-self : goal.invariant_of-self
invariant_of-self g c =
    let s = c.self.inside in let says = c.holds_held.ensures in
    still _ _ s.desk c.holds_held.new.desk s.slots.items s.pile c.self.invariant says.keeps says.bag says.held

pub returns-in-Ok-clause-told : goal.returns-in-Ok-clause-told
returns-in-Ok-clause-told g c =
    let s = c.self.inside in let d = s.desk in let e = c.holds_held.new.desk in let site = c.in-Ok.site in let z = kind_at c.args.cell in
    let h = c.handle_at in let x = c.content_of-expected in let k = c.in-Ok.ensures.found.1 in
    let there : IsKindAt z s.slots.items c.args.at = subst (λ (t : TableNow g.row.V.Denot). IsKindAt z t.slots c.args.at) (sym c.self.view_is) c.requires.at in
    subst (λ (t : TableNow g.row.V.Denot). TellsSlotHeld t c.args.cell c.args.at c.holds_held.result (seen e s.slots.items s.pile)) c.self.view_is
    record {
      site = site.site;
      is = c.in-Ok.ensures.found.0;
      of = h.result.now;
      at = h.ensures;
      kind = kind_there s.slots.items c.args.at z h.result.now there h.ensures;
      tells = by_parts (λ y b p. cells.TellsHeld d (cell_of_site d site.site) y b p c.holds_held.result e) z site.kind
          (block_of_held h.result.now) x.result.word.block (place_of_held h.result.now) x.result.word.place (sym k) x.ensures.1 x.ensures.2
          c.holds_held.ensures.event;
      rest = (refl, refl);
    }

pub find-requires-clause-reach : goal.find-requires-clause-reach
find-requires-clause-reach g c = subst (λ (t : TableNow g.row.V.Denot). IsInReach t.desk.shape t.slots c.args.cell) (sym c.self.view_is) c.requires.reach

pub handle_at-requires : goal.handle_at-requires
handle_at-requires g c =
    let at = subst (λ (t : TableNow g.row.V.Denot). IsKindAt (kind_at c.args.cell) t.slots c.args.at) (sym c.self.view_is) c.requires.at in (at.0, at.1)
