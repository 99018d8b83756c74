use Rattle.control_word.proofs.steps.Shut as shut
use Rattle.control_word.proofs.steps.Open as opened
use Rattle.control_word.proofs.laws.step_laws.doors.Goals as goal

pub returns : goal.returns
returns g c = record {
  shut_door = shut.shuts;
  open_door = opened.opens';
}
