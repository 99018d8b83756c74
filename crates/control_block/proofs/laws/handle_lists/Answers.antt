use Rattle.control_block.proofs.HandleLists as law
use Rattle.control_block.proofs.laws.handle_lists.Goals as goal

pub returns-clause-none : goal.returns-clause-none
returns-clause-none g c = law.holds_none

pub returns-clause-each : goal.returns-clause-each
returns-clause-each g c = law.holds_each

pub returns-clause-more : goal.returns-clause-more
returns-clause-more g c = law.holds_more

pub returns-clause-less : goal.returns-clause-less
returns-clause-less g c = law.holds_less

pub returns-clause-rest : goal.returns-clause-rest
returns-clause-rest g c = law.holds_rest

pub returns-clause-in_order : goal.returns-clause-in_order
returns-clause-in_order g c = law.holds_in_order

pub returns-clause-part : goal.returns-clause-part
returns-clause-part g c = law.holds_part

pub returns-clause-apart : goal.returns-clause-apart
returns-clause-apart g c = law.holds_apart

pub returns-clause-both : goal.returns-clause-both
returns-clause-both g c = law.holds_both
