use Rattle.script_runner.proofs.Logging as law
use Rattle.script_runner.proofs.laws.worker_logs.Goals as goal

pub returns-clause-begins : goal.returns-clause-begins
returns-clause-begins g c = law.begins

pub returns-clause-mark : goal.returns-clause-mark
returns-clause-mark g c = law.goes_on_by_mark

pub returns-clause-call : goal.returns-clause-call
returns-clause-call g c = law.goes_on_by_call

pub returns-clause-joined : goal.returns-clause-joined
returns-clause-joined g c = law.is_joined

pub returns-clause-stays : goal.returns-clause-stays
returns-clause-stays g c = law.stays_joined
