use Rattle.control_block.specs.SlotLists.{handles_in}
use Rattle.control_block.specs.declared.handles.Held.TheVariants as held
use Rattle.handle_tests.proofs.Hands.{hand_held, owners_compared}
use Rattle.handle_tests.proofs.listed.compares.try_shared.Goals as goal

pub compare_exchange_strong-requires-clause-holds : goal.compare_exchange_strong-requires-clause-holds
compare_exchange_strong-requires-clause-holds g c =
    (c.requires.expected, hand_held c.args.desk.now (held.Owner c.args.desired) (handles_in c.args._slots.now) c.requires.holds)

pub returns-clause-holds : goal.returns-clause-holds
returns-clause-holds g c =
    let x = c.compare_exchange_strong in let e = x.ensures in
    owners_compared c.args.desk.now x.new.desk c.args._slots.now c.assert_invariant.ensures c.args.desired x.result c.requires.holds e.refused e.back e.bag
    e.held
