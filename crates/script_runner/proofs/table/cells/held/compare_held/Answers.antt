use Rattle.std.proofs.Common.{◌≡◌, cond, sym, refl, ◌∙◌, subst}
use Rattle.script_runner.proofs.TablePrelude.{bag_of, cell_of_site, with_handle, without_handle}
use Rattle.atomic_cells.specs.Compares as cells
use Rattle.script_runner.proofs.CellSites.{by_parts, with_named}
use Rattle.script_runner.proofs.table.cells.held.compare_held.Goals as goal

pub returns-clause-kind : goal.returns-clause-kind
returns-clause-kind g c = c.held_of.ensures.0 ∙ (c.in-Ok.ensures.kind ∙ c.requires.kinds.1)

pub returns-clause-event : goal.returns-clause-event
returns-clause-event g c =
    let a = c.args in let d = a.desk.now in let x = c.in-Ok.found in let k = a.cell.kind in
    by_parts
    (λ _ b p. cells.Compares d (cell_of_site d a.cell.site) k a.expected.word.block a.expected.word.place a.new.word.block a.new.word.place c.in-Ok.swapped
    b p g.F.Form.weak
    c.compare.new.desk) k k _ x.word.block _ x.word.place refl c.held_of.ensures.1 c.held_of.ensures.2
    (subst
    (λ z. cells.Compares d (cell_of_site d a.cell.site) z a.expected.word.block a.expected.word.place a.new.word.block a.new.word.place c.in-Ok.swapped
    x.word.block x.word.place g.F.Form.weak c.compare.new.desk) c.requires.kinds.1 c.in-Ok.ensures.event)

pub returns-clause-bag : goal.returns-clause-bag
returns-clause-bag g c =
    let a = c.args in let x = c.in-Ok.found in let k = a.cell.kind in let l = bag_of a.desk.now in
    subst (λ z. bag_of c.compare.new.desk
    ≡ with_handle z x.word.block x.word.place (cond c.in-Ok.swapped (without_handle z a.new.word.block a.new.word.place l) l)) c.requires.kinds.1
    c.in-Ok.ensures.bag
    ∙ sym (with_named c.held_of.result k x.word.block x.word.place (cond c.in-Ok.swapped (without_handle k a.new.word.block a.new.word.place l) l)
    (c.held_of.ensures.0 ∙ (c.in-Ok.ensures.kind ∙ c.requires.kinds.1)) c.held_of.ensures.1 c.held_of.ensures.2)
