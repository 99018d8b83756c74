use Rattle.std.proofs.Common.{arith}
use Rattle.script_runner.proofs.TasksAsk.{none_asked}
use Rattle.script_runner.proofs.workers.requirements.asks_for.Goals as goal

pub returns-in_default : goal.returns-in_default
returns-in_default c = record { is = none_asked c.args.call c.in_default.not-Make c.in_default.not-MakeThis c.in_default.not-Null; few = omega arith }
