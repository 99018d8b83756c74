use Rattle.std.proofs.Common.{false}
use Rattle.control_word.specs.Handles.{empty}
use Rattle.control_block.specs.CellCalls.{cell_of_site, handle_in}
use Rattle.atomic_cells.proofs.at.At.holds.Given as goal

abbrev pub ghosts-holds : goal.ghosts-holds
ghosts-holds g a =
    record {
      cell = cell_of_site a.desk.now a.site;
      new = empty a.expected.kind;
      expected = handle_in a.desk.now a.expected.kind a.expected.word.block a.expected.word.place;
      weak = false;
    }
