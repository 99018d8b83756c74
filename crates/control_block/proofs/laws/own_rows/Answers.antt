use Rattle.control_block.proofs.Own as law
use Rattle.control_block.proofs.laws.own_rows.Goals as goal

pub returns-clause-none : goal.returns-clause-none
returns-clause-none g c = law.goes_by_none

pub returns-clause-call : goal.returns-clause-call
returns-clause-call g c = law.goes_by_call

pub returns-clause-join : goal.returns-clause-join
returns-clause-join g c = law.goes_by_join

pub returns-clause-in_turn : goal.returns-clause-in_turn
returns-clause-in_turn g c = law.goes_in_turn

pub returns-clause-own : goal.returns-clause-own
returns-clause-own g c = law.goes_add
