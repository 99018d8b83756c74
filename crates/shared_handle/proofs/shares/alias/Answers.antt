use Rattle.shared_handle.proofs.Owned.{taken_as_given}
use Rattle.shared_handle.proofs.shares.alias.Goals as goal

pub returns-clause-given : goal.returns-clause-given
returns-clause-given g c = λ may.
    let h = c.args.handle.now in
    taken_as_given c.args.desk.now h.block h.place c.args.place c.assert_invariant.ensures h.proper c.requires.holds may
