use Rattle.std.proofs.Common.{◌≡◌, ◌+◌, ◌≤◌, length, drop}
use Rattle.script_runner.proofs.Prelude.{KeepsLimits, MayGoOn, PlaysOn}
use Rattle.script_runner.proofs.workers.turns.play.Given as goal

abbrev pub invariant-loop : goal.invariant-loop
invariant-loop g l =
    PlaysOn (length l.kinds.items + 1) l.initial.table l.tasks.items l.initial.log l.table (drop l.at l.tasks.items) l.log
    × MayGoOn l.kinds.items (length l.kinds.items + 1) l.log.taken l.table (drop l.at l.tasks.items)
    × KeepsLimits l.initial.table l.table
    × (l.log.share.book ≡ l.initial.log.share.book)
    × (l.counter ≤ l.at)
