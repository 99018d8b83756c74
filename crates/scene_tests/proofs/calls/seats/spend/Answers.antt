use Rattle.scene_structures.proofs.Calls.{served, serves_empty}
use Rattle.scene_tests.proofs.calls.seats.spend.Goals as goal

pub drop_shared-gone-requires-clause-carries : goal.drop_shared-gone-requires-clause-carries
drop_shared-gone-requires-clause-carries g c = served c.args.domain.now c.args.desk.now c.args.pile.now c.requires.serves c.requires.domain

pub returns-clause-serves : goal.returns-clause-serves
returns-clause-serves g c = serves_empty _ c.settle.new.desk c.settle.new.self c.settle.ensures.carries c.settle.ensures.none
