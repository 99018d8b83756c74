use Rattle.control_word.proofs.steps.Standing as standing
use Rattle.control_word.proofs.steps.Swap as swap
use Rattle.control_word.proofs.steps.CompareSwap as compare_swap
use Rattle.control_word.proofs.steps.Clear as clear
use Rattle.control_word.proofs.laws.step_laws.cells.Goals as goal

pub returns : goal.returns
returns g c = record {
  show_cells = standing.cells_show;
  swap = swap.swaps';
  compare_and_swap = compare_swap.compare_swaps;
  clear = clear.clears';
}
