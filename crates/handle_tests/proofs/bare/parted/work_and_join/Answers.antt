use Rattle.std.proofs.Common.{sym, subst}
use Rattle.handle_tests.specs.Hands.{HoldsSlots}
use Rattle.handle_tests.proofs.Parting.{back}
use Rattle.handle_tests.proofs.bare.parted.work_and_join.Goals as goal

pub returns-clause-holds : goal.returns-clause-holds
returns-clause-holds g c =
    let w = c.work_in_thread in let j = c.join.ensures in
    back 4 c.args.one.now w.new.two c.join.new.self w.new.slots.items c.assert_invariant.ensures c.assert_invariant-2.ensures
    (subst (HoldsSlots c.args.one.now) (sym w.ensures.mine) c.requires.mine) w.ensures.holds j.bag j.held
