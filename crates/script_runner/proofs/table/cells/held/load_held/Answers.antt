use Rattle.std.proofs.Common.{sym, refl, ◌∙◌}
use Rattle.script_runner.proofs.TablePrelude.{bag_of, cell_of_site}
use Rattle.atomic_cells.specs.Cells as cells
use Rattle.script_runner.proofs.CellSites.{by_parts, with_named}
use Rattle.script_runner.proofs.table.cells.held.load_held.Goals as goal

pub returns-clause-kind : goal.returns-clause-kind
returns-clause-kind g c = c.held_of.ensures.0 ∙ c.in-Ok.ensures.kind

pub returns-clause-event : goal.returns-clause-event
returns-clause-event g c =
    let d = c.args.desk.now in let x = c.in-Ok.found in
    by_parts (λ k b p. cells.Loads d (cell_of_site d c.args.cell.site) k b p c.load.new.desk) c.args.cell.kind c.args.cell.kind _ x.word.block _
    x.word.place refl
    c.held_of.ensures.1 c.held_of.ensures.2 c.in-Ok.ensures.event

pub returns-clause-bag : goal.returns-clause-bag
returns-clause-bag g c =
    let x = c.in-Ok.found in
    c.in-Ok.ensures.bag ∙ sym (with_named c.held_of.result c.args.cell.kind x.word.block x.word.place (bag_of c.args.desk.now)
    (c.held_of.ensures.0 ∙ c.in-Ok.ensures.kind) c.held_of.ensures.1 c.held_of.ensures.2)
