use Rattle.std.proofs.Common.{false}
use Rattle.script_runner.proofs.TablePrelude.{cell_of_site, empty, handle_in}
use Rattle.script_runner.proofs.table.cells.held.exchange_held.Given as goal

abbrev pub ghosts-exchange : goal.ghosts-exchange
ghosts-exchange g a =
    record {
      cell = cell_of_site a.desk.now a.site;
      new = handle_in a.desk.now a.new.kind a.new.word.block a.new.word.place;
      expected = empty a.new.kind;
      weak = false;
    }
