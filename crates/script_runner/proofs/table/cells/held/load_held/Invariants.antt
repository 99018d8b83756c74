use Rattle.std.proofs.Common.{false}
use Rattle.script_runner.proofs.TablePrelude.{cell_of_site, empty}
use Rattle.script_runner.proofs.table.cells.held.load_held.Given as goal

abbrev pub ghosts-load : goal.ghosts-load
ghosts-load g a = record { cell = cell_of_site a.desk.now a.cell.site; new = empty a.cell.kind; expected = empty a.cell.kind; weak = false }
