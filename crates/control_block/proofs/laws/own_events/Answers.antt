use Rattle.control_block.proofs.Own as law
use Rattle.control_block.proofs.laws.own_events.Goals as goal

pub returns-clause-calls : goal.returns-clause-calls
returns-clause-calls g c = law.calls_add

pub returns-clause-splits : goal.returns-clause-splits
returns-clause-splits g c = law.splits_add

pub returns-clause-joins : goal.returns-clause-joins
returns-clause-joins g c = law.joins_add

pub returns-clause-joined : goal.returns-clause-joined
returns-clause-joined g c = law.joined_rest
