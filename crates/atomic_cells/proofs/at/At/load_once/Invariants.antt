use Rattle.std.proofs.Common.{false}
use Rattle.control_word.specs.Handles.{empty}
use Rattle.control_block.specs.CellCalls.{cell_of_site}
use Rattle.atomic_cells.proofs.at.At.load_once.Given as goal

abbrev pub ghosts-load_once : goal.ghosts-load_once
ghosts-load_once g a = record { cell = cell_of_site a.desk.now a.cell.site; new = empty a.cell.kind; expected = empty a.cell.kind; weak = false }
