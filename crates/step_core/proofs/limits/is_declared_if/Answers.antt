use Rattle.step_core.proofs.Programs.{one_named}
use Rattle.step_core.proofs.limits.is_declared_if.Goals as goal

pub returns-in-Some : goal.returns-in-Some
returns-in-Some c = one_named c.args.kinds.now c.args.asked c.in-Some.asked c.is_declared.result c.in-Some.is c.is_declared.ensures
