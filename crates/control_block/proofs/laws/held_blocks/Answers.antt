use Rattle.control_block.proofs.Latest as law
use Rattle.control_block.proofs.laws.held_blocks.Goals as goal

pub returns-clause-calls : goal.returns-clause-calls
returns-clause-calls g c = law.calls_keep_latest

pub returns-clause-joins : goal.returns-clause-joins
returns-clause-joins g c = law.joins_keep_latest
