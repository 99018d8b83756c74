use Rattle.std.proofs.Common.{false}
use Rattle.control_word.specs.Handles.{empty}
use Rattle.control_block.specs.CellCalls.{cell_of_site, handle_in}
use Rattle.atomic_cells.proofs.weak_at.WeakAt.store.Given as goal

abbrev pub ghosts-store : goal.ghosts-store
ghosts-store g a =
    record {
      cell = cell_of_site a.desk.now a.site;
      new = handle_in a.desk.now a.new.kind a.new.word.block a.new.word.place;
      expected = empty a.new.kind;
      weak = false;
    }
