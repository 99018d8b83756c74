use Rattle.std.proofs.Common.{false}
use Rattle.control_block.specs.CellCalls.{handle_in}
use Rattle.atomic_cells.proofs.at.At.compare_exchange_strong.Given as goal

abbrev pub ghosts-compare_as : goal.ghosts-compare_as
ghosts-compare_as g a =
    let s = g.S.CellSite in let d = a.desk.now in
    record {
      cell = s.cell_of _ d a.self.now.site;
      new = handle_in d s.kind (s.block_of a.desired) (s.place_of a.desired);
      expected = handle_in d s.kind (s.block_of a.expected.now) (s.place_of a.expected.now);
      weak = false;
    }
