use Rattle.std.proofs.Common.{false}
use Rattle.control_word.specs.Handles.{empty}
use Rattle.control_block.specs.CellCalls.{cell_of_site}
use Rattle.atomic_cells.proofs.at.At.load.Given as goal

abbrev pub ghosts-load : goal.ghosts-load
ghosts-load g a = record { cell = cell_of_site a.desk.now a.cell.site; new = empty a.cell.kind; expected = empty a.cell.kind; weak = false }
