use Rattle.script_runner.proofs.Calling as law
use Rattle.script_runner.proofs.laws.desk_calls.Goals as goal

pub returns-clause-made : goal.returns-clause-made
returns-clause-made g c = law.made

pub returns-clause-copied : goal.returns-clause-copied
returns-clause-copied g c = law.copied

pub returns-clause-copied_weakly : goal.returns-clause-copied_weakly
returns-clause-copied_weakly g c = law.copied_weakly

pub returns-clause-downgraded : goal.returns-clause-downgraded
returns-clause-downgraded g c = law.downgraded

pub returns-clause-aliased : goal.returns-clause-aliased
returns-clause-aliased g c = law.aliased_to

pub returns-clause-locked : goal.returns-clause-locked
returns-clause-locked g c = law.locked

pub returns-clause-counted : goal.returns-clause-counted
returns-clause-counted g c = law.counted

pub returns-clause-expired : goal.returns-clause-expired
returns-clause-expired g c = law.expired

pub returns-clause-read : goal.returns-clause-read
returns-clause-read g c = law.read

pub returns-clause-given : goal.returns-clause-given
returns-clause-given g c = law.given_this

pub returns-clause-given_weakly : goal.returns-clause-given_weakly
returns-clause-given_weakly g c = law.given_weak_this

pub returns-clause-gone : goal.returns-clause-gone
returns-clause-gone g c = law.gone

pub returns-clause-gone_weakly : goal.returns-clause-gone_weakly
returns-clause-gone_weakly g c = law.gone_weakly
