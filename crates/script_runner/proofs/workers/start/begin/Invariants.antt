use Rattle.script_runner.proofs.Naming.{AreNamed}
use Rattle.script_runner.proofs.workers.start.begin.Given as goal

abbrev pub invariant-loop-name : goal.invariant-loop-name
invariant-loop-name g l = AreNamed l.kinds.items l.name l.initial.table l.table
