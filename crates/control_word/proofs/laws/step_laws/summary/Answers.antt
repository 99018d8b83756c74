use Rattle.control_word.proofs.steps.Summary.{writes_summary}
use Rattle.control_word.proofs.laws.step_laws.summary.Goals as goal

pub returns : goal.returns
returns g c = record { write_summary = writes_summary }
