use Rattle.std.proofs.Common.{sym, refl, ◌∙◌, subst}
use Rattle.script_runner.proofs.TablePrelude.{block_of_held, cell_of_site, IsKindAt, kind_at, place_of_held, TableNow, IsInReach, IsBelow}
use Rattle.atomic_cells.specs.Compares as cells
use Rattle.script_runner.specs.Compares.{ComparesSlots}
use Rattle.script_runner.proofs.CellSites.{by_parts}
use Rattle.script_runner.proofs.Compared.{content_held, fits_differs, fits_swapped, found_below, kind_there}
use Rattle.script_runner.proofs.Wholes.{kept, seen}
use Rattle.script_runner.proofs.table.WorkerTable.compare_as.Goals as goal

pub compare_held-swapped-requires-clause-holds : goal.compare_held-swapped-requires-clause-holds
compare_held-swapped-requires-clause-holds g c =
    let s = c.self.inside in let ss = s.slots.items in let k = c.in-Ok.ensures.found.1 in let z = kind_at c.args.cell in
    let q = subst (λ (t : TableNow g.row.V.Denot). IsKindAt z t.slots c.args.expected × IsKindAt z t.slots c.args.desired) (sym c.self.view_is)
    c.requires.slots in
    let x = c.content_of-there in let y = c.content_of-new in (
      content_held s.desk ss c.args.expected c.handle_at.result.now x.result c.in-Ok.at.kind c.self.invariant.fits c.handle_at.ensures x.ensures
          (sym x.ensures.0 ∙ (kind_there ss c.args.expected z c.handle_at.result.now q.0 c.handle_at.ensures ∙ sym k)),
      content_held s.desk ss c.args.desired c.handle_at-in-Ok.result.now y.result c.in-Ok.at.kind c.self.invariant.fits c.handle_at-in-Ok.ensures y.ensures
          (sym y.ensures.0 ∙ (kind_there ss c.args.desired z c.handle_at-in-Ok.result.now q.1 c.handle_at-in-Ok.ensures ∙ sym k)),
    )

pub compare_held-swapped-requires-clause-kinds : goal.compare_held-swapped-requires-clause-kinds
compare_held-swapped-requires-clause-kinds g c =
    let s = c.self.inside in let ss = s.slots.items in let k = c.in-Ok.ensures.found.1 in let z = kind_at c.args.cell in
    let q = subst (λ (t : TableNow g.row.V.Denot). IsKindAt z t.slots c.args.expected × IsKindAt z t.slots c.args.desired) (sym c.self.view_is)
    c.requires.slots in (
      sym c.content_of-there.ensures.0 ∙ (kind_there ss c.args.expected z c.handle_at.result.now q.0 c.handle_at.ensures ∙ sym k),
      sym c.content_of-new.ensures.0 ∙ (kind_there ss c.args.desired z c.handle_at-in-Ok.result.now q.1 c.handle_at-in-Ok.ensures ∙ sym k),
    )

pub follow-requires-clause-bears : goal.follow-requires-clause-bears
follow-requires-clause-bears g c =
    let s = c.self.inside in let m = c.compare_held-swapped in kept s.domain.now s.desk m.new.desk s.pile c.self.invariant.bears m.ensures.keeps

pub follow-requires-clause-there : goal.follow-requires-clause-there
follow-requires-clause-there g c =
    let ss = c.self.inside.slots.items in (
      found_below ss c.args.expected _ c.handle_at.ensures,
      (c.handle_at-in-Ok.result.now, c.handle_at-in-Ok.ensures),
    )

pub follow-requires-clause-swapped : goal.follow-requires-clause-swapped
follow-requires-clause-swapped g c hit =
    let s = c.self.inside in let m = c.compare_held-swapped in let y = c.content_of-new in let h = c.handle_at-in-Ok in
    let q = subst (λ (t : TableNow g.row.V.Denot). IsKindAt (kind_at c.args.cell) t.slots c.args.desired) (sym c.self.view_is) c.requires.slots.1 in
    fits_swapped s.desk m.new.desk s.slots.items c.args.desired h.result.now m.result.1 y.result c.in-Ok.at.kind m.result.0 c.self.invariant.fits h.ensures
    y.ensures
    (sym y.ensures.0 ∙ (kind_there s.slots.items c.args.desired (kind_at c.args.cell) h.result.now q h.ensures ∙ sym c.in-Ok.ensures.found.1))
    m.ensures.bag m.ensures.held hit

pub follow-requires-clause-differs : goal.follow-requires-clause-differs
follow-requires-clause-differs g c miss =
    let s = c.self.inside in let m = c.compare_held-swapped in
    fits_differs s.desk m.new.desk s.slots.items m.result.1 c.content_of-new.result c.in-Ok.at.kind m.result.0 c.self.invariant.fits m.ensures.bag
    m.ensures.held miss

pub returns-in-Ok-clause-compared : goal.returns-in-Ok-clause-compared
returns-in-Ok-clause-compared g c =
    let s = c.self.inside in let ss = s.slots.items in let d = s.desk in let m = c.compare_held-swapped in let r = m.result in
    let at = c.in-Ok.at in let k = c.in-Ok.ensures.found.1 in let z = kind_at c.args.cell in let site = cell_of_site d at.site in
    let x = c.content_of-there in let y = c.content_of-new in let h = c.handle_at.result.now in let n = c.handle_at-in-Ok.result.now in
    let q = subst (λ (t : TableNow g.row.V.Denot). IsKindAt z t.slots c.args.expected × IsKindAt z t.slots c.args.desired) (sym c.self.view_is)
    c.requires.slots in
    subst (λ (t : TableNow g.row.V.Denot). ComparesSlots g.F.Form.weak t c.args.cell c.args.expected c.args.desired r.0
    (seen c.follow.new.desk c.follow.new.slots.items c.follow.new.pile)) c.self.view_is
    record {
      site = at.site;
      is = c.in-Ok.ensures.found.0;
      room = subst (λ (t : TableNow g.row.V.Denot). IsBelow t.desk) (sym c.self.view_is) c.requires.below;
      there = h;
      new = n;
      at = (c.handle_at.ensures, c.handle_at-in-Ok.ensures);
      found = r.1;
      kinds = (kind_there ss c.args.expected z h q.0 c.handle_at.ensures, kind_there ss c.args.desired z n q.1 c.handle_at-in-Ok.ensures, m.ensures.kind ∙ k);
      between = m.new.desk;
      compares = by_parts (λ y b p. cells.Compares d site y b p (block_of_held n) (place_of_held n) r.0 (block_of_held r.1) (place_of_held r.1)
          g.F.Form.weak m.new.desk)
          z at.kind (block_of_held h) x.result.word.block (place_of_held h) x.result.word.place (sym k) x.ensures.1 x.ensures.2
          (by_parts (λ _ b p. cells.Compares d site at.kind x.result.word.block x.result.word.place b p r.0 (block_of_held r.1) (place_of_held r.1)
          g.F.Form.weak m.new.desk)
          at.kind at.kind (block_of_held n) y.result.word.block (place_of_held n) y.result.word.place refl y.ensures.1 y.ensures.2 m.ensures.event);
      follows = c.follow.ensures.follows;
    }

pub find-requires-clause-reach : goal.find-requires-clause-reach
find-requires-clause-reach g c = subst (λ (t : TableNow g.row.V.Denot). IsInReach t.desk.shape t.slots c.args.cell) (sym c.self.view_is) c.requires.reach

pub handle_at-requires : goal.handle_at-requires
handle_at-requires g c =
    let at = subst (λ (t : TableNow g.row.V.Denot). IsKindAt (kind_at c.args.cell) t.slots c.args.expected) (sym c.self.view_is) c.requires.slots.0 in
    (at.0, at.1)

pub handle_at-requires-in-Ok : goal.handle_at-requires-in-Ok
handle_at-requires-in-Ok g c =
    let at = subst (λ (t : TableNow g.row.V.Denot). IsKindAt (kind_at c.args.cell) t.slots c.args.desired) (sym c.self.view_is) c.requires.slots.1 in
    (at.0, at.1)

pub compare_held-swapped-requires-clause-below : goal.compare_held-swapped-requires-clause-below
compare_held-swapped-requires-clause-below g c = subst (λ (t : TableNow g.row.V.Denot). IsBelow t.desk) (sym c.self.view_is) c.requires.below
