use Rattle.control_block.proofs.Sole as law
use Rattle.control_block.proofs.laws.sole_desks.Goals as goal

pub returns-clause-next : goal.returns-clause-next
returns-clause-next g c = law.comes_next

pub returns-clause-row : goal.returns-clause-row
returns-clause-row g c = law.come_in_a_row
