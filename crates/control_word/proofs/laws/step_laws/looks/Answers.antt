use Rattle.control_word.proofs.steps.Look as look
use Rattle.control_word.proofs.steps.Sameness as sameness
use Rattle.control_word.proofs.laws.step_laws.looks.Goals as goal

pub returns : goal.returns
returns g c = record {
  tell_count = look.tells_count;
  tell_expired = look.tells_expired;
  read = look.reads;
  look_on = look.looks_on;
  load_empty = look.loads_empty;
  differ_empty = look.differs_empty;
  tell_same = sameness.tells_same;
}
