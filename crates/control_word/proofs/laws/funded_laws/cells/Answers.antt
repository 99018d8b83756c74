use Rattle.control_word.proofs.funded.Cells as cells
use Rattle.control_word.proofs.funded.Purses as purses
use Rattle.control_word.proofs.funded.Refills as refills
use Rattle.control_word.proofs.laws.funded_laws.cells.Goals as goal

pub returns : goal.returns
returns g c = record {
  show_cells = cells.cells_show_funded;
  take = cells.takes_funded;
  turn = purses.turns_funded;
  top_up = purses.tops_up;
  refill = refills.refills_funded;
  swap = cells.swaps_funded;
  compare_and_swap = cells.compare_swaps_funded;
  clear = cells.clears_funded;
}
