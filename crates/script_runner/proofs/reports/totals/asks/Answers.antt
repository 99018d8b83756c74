use Rattle.std.proofs.Common.{sym, ap}
use Rattle.script_runner.proofs.Prelude.{objects_asked}
use Rattle.script_runner.proofs.reports.totals.asks.Goals as goal

pub returns-in-Make-clause-is : goal.returns-in-Make-clause-is
returns-in-Make-clause-is c = sym (ap objects_asked c.in-Make.is)
