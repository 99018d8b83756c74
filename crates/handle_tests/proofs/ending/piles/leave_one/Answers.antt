use Rattle.shared_handle.proofs.Piles.{carries_kept}
use Rattle.handle_tests.proofs.ending.piles.leave_one.Goals as goal

pub drop_shared-gone-requires-clause-carries : goal.drop_shared-gone-requires-clause-carries
drop_shared-gone-requires-clause-carries c =
    let e = c.made.ensures in
    carries_kept c.args.domain.now c.args.desk.now c.made.new.desk c.args.pile.now c.requires.carries e.desk.domain e.desk.shape e.endings

pub returns-in_default-clause-carries : goal.returns-in_default-clause-carries
returns-in_default-clause-carries c =
    let e = c.made.ensures in
    carries_kept c.args.domain.now c.args.desk.now c.made.new.desk c.args.pile.now c.requires.carries e.desk.domain e.desk.shape e.endings
