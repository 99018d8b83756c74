use Rattle.control_word.proofs.steps.Begin as begin
use Rattle.control_word.proofs.steps.Write as write
use Rattle.control_word.proofs.steps.Claim as claim
use Rattle.control_word.proofs.laws.step_laws.making.Goals as goal

pub returns : goal.returns
returns g c = record {
  write_weak_word = begin.writes_weak_word;
  find_weak_word = begin.finds_weak_word;
  write_word = write.writes_word;
  claim = claim.claims;
}
