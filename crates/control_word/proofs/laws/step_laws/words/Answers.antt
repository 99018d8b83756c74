use Rattle.control_word.proofs.steps.Standing as standing
use Rattle.control_word.proofs.laws.step_laws.words.Goals as goal

pub returns : goal.returns
returns g c = record {
  begin = standing.begins;
  have_headroom = standing.has_headroom;
}
