use Rattle.handle_tests.proofs.Hands.{held_in}
use Rattle.handle_tests.proofs.listed.slots.held_at.Goals as goal

pub returns-in-Some : goal.returns-in-Some
returns-in-Some c = held_in c.args._desk.now c.args.slots.now c.args.at c.in-Some.handle.now c.requires c.in-Some.ensures
