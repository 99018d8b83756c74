use Rattle.pointers.proofs.desk.Desk.compare_any_weak.Goals as goal

pub returns-in-Some-clause-compared : goal.returns-in-Some-clause-compared
returns-in-Some-clause-compared g c = rw c.in-Some.is c.compare_weak_with.ensures.compared
