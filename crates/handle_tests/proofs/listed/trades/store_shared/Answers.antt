use Rattle.control_block.specs.SlotLists.{handles_in}
use Rattle.control_block.specs.declared.handles.Held.TheVariants as held
use Rattle.handle_tests.proofs.Hands.{all_less, hand_held, rest_held, ended_less}
use Rattle.handle_tests.proofs.listed.trades.store_shared.Goals as goal

pub shared_at-requires-clause-holds : goal.shared_at-requires-clause-holds
shared_at-requires-clause-holds c = rest_held c.args.desk.now (held.Owner c.args.owner) (handles_in c.args.slots.now) c.requires.holds

pub store-requires-clause-holds : goal.store-requires-clause-holds
store-requires-clause-holds c = hand_held c.args.desk.now (held.Owner c.args.owner) (handles_in c.args.slots.now) c.requires.holds

pub returns-in-Empty-clause-holds : goal.returns-in-Empty-clause-holds
returns-in-Empty-clause-holds c =
    let e = c.store.ensures in
    all_less c.args.desk.now c.store.new.desk (held.Owner c.args.owner) (handles_in c.args.slots.now) c.requires.holds e.bag e.held

pub returns-in-Others-clause-holds : goal.returns-in-Others-clause-holds
returns-in-Others-clause-holds c =
    let e = c.store.ensures in
    all_less c.args.desk.now c.store.new.desk (held.Owner c.args.owner) (handles_in c.args.slots.now) c.requires.holds e.bag e.held

pub returns-in-Last-clause-holds : goal.returns-in-Last-clause-holds
returns-in-Last-clause-holds c =
    let e = c.store.ensures in let f = c.end_of.ensures in
    ended_less c.args.desk.now c.store.new.desk c.end_of.new.desk (held.Owner c.args.owner) (handles_in c.args.slots.now) c.requires.holds e.bag e.held
    f.bag f.held
