use Rattle.control_block.specs.SlotLists.{handles_in}
use Rattle.control_block.specs.declared.handles.Held.TheVariants as held
use Rattle.handle_tests.proofs.Hands.{rest_held}
use Rattle.handle_tests.proofs.listed.compares.compare_shared.Goals as goal

pub owner_at-requires : goal.owner_at-requires
owner_at-requires g c = rest_held c.args.desk.now (held.Owner c.args.desired) (handles_in c.args.slots.now) c.requires.holds

pub shared_at-requires-clause-holds : goal.shared_at-requires-clause-holds
shared_at-requires-clause-holds g c = rest_held c.args.desk.now (held.Owner c.args.desired) (handles_in c.args.slots.now) c.requires.holds
