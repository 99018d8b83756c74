use Rattle.std.proofs.Common.{length}
use Rattle.script_runner.proofs.Absorbing.{Absorbing}
use Rattle.script_runner.proofs.table.WorkerTable.absorb_all.Given as goal

abbrev pub invariant-loop-table : goal.invariant-loop-table
invariant-loop-table g l = Absorbing l.initial.self l.self l.initial.tables.items l.tables.items

abbrev pub decreases-loop-table : goal.decreases-loop-table
decreases-loop-table g l = length l.tables.items
