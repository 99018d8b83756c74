use Rattle.std.proofs.Common.{◌∷◌}
use Rattle.control_block.specs.SlotLists.{handles_in}
use Rattle.control_block.specs.declared.handles.Held.TheVariants as held
use Rattle.handle_tests.proofs.Hands.{all_less, hand_held, owner_swapped, owner_differs, owner_seen}
use Rattle.handle_tests.proofs.listed.compares.tell_shared.Goals as goal

pub leave-was-requires-clause-held : goal.leave-was-requires-clause-held
leave-was-requires-clause-held c =
    hand_held c.args.desk.now (held.Owner c.in-Swapped.old) (handles_in c.args._slots.now)
    (owner_swapped c.args.desk.now c.args._slots.now c.args.compared c.in-Swapped.old c.requires.holds c.in-Swapped.is)

pub use_count-owners-requires-clause-holds : goal.use_count-owners-requires-clause-holds
use_count-owners-requires-clause-holds c =
    let x = c.in-Differs in
    hand_held c.args.desk.now (held.Owner x.held) (held.Owner x.desired ∷ handles_in c.args._slots.now)
    (owner_differs c.args.desk.now c.args._slots.now c.args.compared x.held x.desired c.requires.holds x.is)

pub leave-requires-clause-held : goal.leave-requires-clause-held
leave-requires-clause-held c =
    let x = c.in-Differs in let u = c.use_count-owners in
    hand_held u.new.desk (held.Owner x.held) (held.Owner x.desired ∷ handles_in c.args._slots.now)
    (owner_seen c.args.desk.now c.args._slots.now c.args.compared x.held x.desired u.new.desk c.requires.holds x.is
    u.ensures.keeps u.ensures.bag u.ensures.held)

pub returns-in-Swapped-clause-holds : goal.returns-in-Swapped-clause-holds
returns-in-Swapped-clause-holds c =
    let l = c.leave-was in
    all_less c.args.desk.now l.new.desk (held.Owner c.in-Swapped.old) (handles_in c.args._slots.now)
    (owner_swapped c.args.desk.now c.args._slots.now c.args.compared c.in-Swapped.old c.requires.holds c.in-Swapped.is) l.ensures.bag l.ensures.held

pub returns-in-Differs-clause-holds : goal.returns-in-Differs-clause-holds
returns-in-Differs-clause-holds c =
    let x = c.in-Differs in let u = c.use_count-owners in let l = c.leave in
    all_less u.new.desk l.new.desk (held.Owner x.held) (held.Owner x.desired ∷ handles_in c.args._slots.now)
    (owner_seen c.args.desk.now c.args._slots.now c.args.compared x.held x.desired u.new.desk c.requires.holds x.is
    u.ensures.keeps u.ensures.bag u.ensures.held)
    l.ensures.bag l.ensures.held
