use Rattle.handle_tests.proofs.ending.piles.leave_two.Goals as goal

pub leave_one-requires-clause-carries : goal.leave_one-requires-clause-carries
leave_one-requires-clause-carries c = c.in_ok-pile.ensures.carries c.args.desk.now c.requires.domain
