use Rattle.control_block.proofs.Shelving.{unshelved_none}
use Rattle.control_block.proofs.desk.Desk.unshelve_bit.Goals as goal

pub returns-then-bit-eq0-clause-unshelved : goal.returns-then-bit-eq0-clause-unshelved
returns-then-bit-eq0-clause-unshelved g c = unshelved_none _

pub returns-then-word-shelf_words-clause-unshelved : goal.returns-then-word-shelf_words-clause-unshelved
returns-then-word-shelf_words-clause-unshelved g c = unshelved_none _
