use Rattle.script_runner.proofs.TablePrelude.{cell_of_site, handle_in}
use Rattle.script_runner.proofs.table.cells.held.compare_held.Given as goal

abbrev pub ghosts-compare : goal.ghosts-compare
ghosts-compare g a =
    record {
      cell = cell_of_site a.desk.now a.site;
      new = handle_in a.desk.now a.offer.new.kind a.offer.new.word.block a.offer.new.word.place;
      expected = handle_in a.desk.now a.offer.new.kind a.offer.expected.word.block a.offer.expected.word.place;
      weak = g.F.Form.weak;
    }
