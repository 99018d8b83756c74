use Rattle.std.proofs.Common.{◌≡◌}
use Rattle.script_runner.proofs.Prelude.{KeepsLimits, MaySettle, SettlesPartly}
use Rattle.script_runner.proofs.workers.log.Log.settle.Given as goal

abbrev pub invariant-loop : goal.invariant-loop
invariant-loop g l =
    (l.self.taken ≡ l.initial.self.taken)
    × (l.self.share.book ≡ l.initial.self.share.book)
    × SettlesPartly l.fn.hand l.fn.statement l.initial.table l.initial.self l.table l.self
    × (l.table.slots ≡ l.initial.table.slots)
    × KeepsLimits l.initial.table l.table
    × MaySettle l.fn.hand l.table
