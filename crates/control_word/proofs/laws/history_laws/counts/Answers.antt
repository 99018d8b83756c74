use Rattle.control_word.proofs.history.Numbers as numbers
use Rattle.control_word.proofs.views.Resting as resting
use Rattle.control_word.proofs.steps.Look as look
use Rattle.control_word.proofs.laws.history_laws.counts.Goals as goal

pub returns : goal.returns
returns g c = record {
  numbers_fit = numbers.numbers_fit;
  rests_exactly = resting.rests_exactly;
  counts_exactly = look.counts_exactly;
}
