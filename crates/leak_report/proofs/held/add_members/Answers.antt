use Rattle.leak_report.proofs.held.add_members.Goals as goal

pub returns-clause-among : goal.returns-clause-among
returns-clause-among c = λ all. c.in_ok-add-3.ensures.among (c.in_ok-add-2.ensures.among (c.in_ok-add.ensures.among all))
