use Rattle.std.proofs.Common.{List, sym, refl, ap, ◌∙◌, subst}
use Rattle.script_runner.proofs.TablePrelude.{bag_of, block_of_held, cell_of_site, HoldsHandle, IsOpenAt}
use Rattle.script_runner.proofs.TablePrelude.{Kind, NumberedHandle, place_of_held, with_handle}
use Rattle.script_runner.proofs.TablePrelude.{without_held}
use Rattle.atomic_cells.specs.Cells as cells
use Rattle.script_runner.proofs.CellSites.{by_parts, held_parts, with_named, without_named}
use Rattle.script_runner.proofs.table.cells.held.exchange_held.Goals as goal

pub exchange-old-requires-clause-cell : goal.exchange-old-requires-clause-cell
exchange-old-requires-clause-cell g c =
    let new = c.into_content-new in (
      subst (λ (k : Kind). IsOpenAt c.args.desk.now c.args.cell.site k) (sym c.requires.held.1 ∙ new.ensures.0) c.requires.cell,
      refl,
    )

pub exchange-old-requires-clause-holds : goal.exchange-old-requires-clause-holds
exchange-old-requires-clause-holds g c =
    let h = c.args.handle in let x = c.into_content-new in
    by_parts (HoldsHandle c.args.desk.now) x.result.kind _ x.result.word.block _ x.result.word.place _ (sym x.ensures.0) (sym x.ensures.1) (sym x.ensures.2)
    (held_parts c.args.desk.now h c.requires.held.0)

pub returns-clause-kind : goal.returns-clause-kind
returns-clause-kind g c =
    c.held_of.ensures.0 ∙ (c.exchange-old.ensures.kind ∙ (sym c.into_content-new.ensures.0 ∙ c.requires.held.1))

pub returns-clause-event : goal.returns-clause-event
returns-clause-event g c =
    let d = c.args.desk.now in let x = c.into_content-new in let y = c.exchange-old in let e = c.exchange-old.new.desk in let k = c.args.cell.kind in
    let at = cell_of_site d c.args.cell.site in
    by_parts (λ _ b p. cells.Exchanges d at k b p (block_of_held c.held_of.result) (place_of_held c.held_of.result) e) k k _ x.result.word.block _
    x.result.word.place refl
    x.ensures.1 x.ensures.2
    (by_parts (λ _ b p. cells.Exchanges d at k x.result.word.block x.result.word.place b p e) k k _ y.result.word.block _ y.result.word.place refl
    c.held_of.ensures.1 c.held_of.ensures.2
    (subst (λ (z : Kind). cells.Exchanges d at z x.result.word.block x.result.word.place y.result.word.block y.result.word.place e)
    (sym x.ensures.0 ∙ c.requires.held.1) y.ensures.event))

pub returns-clause-bag : goal.returns-clause-bag
returns-clause-bag g c =
    let x = c.into_content-new in let y = c.exchange-old in let k = x.result.kind in let l = bag_of c.args.desk.now in let h = c.args.handle in
    y.ensures.bag
    ∙ ap (λ (m : List NumberedHandle). with_handle k y.result.word.block y.result.word.place m)
    (sym (without_named h k x.result.word.block x.result.word.place l x.ensures.0 x.ensures.1 x.ensures.2))
    ∙ sym (with_named c.held_of.result k y.result.word.block y.result.word.place (without_held h l)
    (c.held_of.ensures.0 ∙ y.ensures.kind) c.held_of.ensures.1 c.held_of.ensures.2)
