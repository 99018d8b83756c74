use Rattle.pointers.proofs.desk.Desk.end_within.Given as goal

abbrev pub decreases-loop-rounds : goal.decreases-loop-rounds
decreases-loop-rounds g l = l.rounds
