use Rattle.std.proofs.Common.{false}
use Rattle.script_runner.proofs.TablePrelude.{cell_of_site, empty, handle_in}
use Rattle.script_runner.proofs.table.cells.held.holds_held.Given as goal

abbrev pub ghosts-holds : goal.ghosts-holds
ghosts-holds g a =
    record {
      cell = cell_of_site a.desk.now a.site;
      new = empty a.expected.kind;
      expected = handle_in a.desk.now a.expected.kind a.expected.word.block a.expected.word.place;
      weak = false;
    }
