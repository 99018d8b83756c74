use Rattle.std.proofs.Common.{ℕ, ◌≤◌}
use Rattle.leak_report.proofs.Prelude.{abstraction}
use Rattle.leak_report.specs.Left.{IsLeaked}
use Rattle.leak_report.proofs.found.leaks.Given as goal

abbrev pub invariant-loop-before : goal.invariant-loop-before
invariant-loop-before l = (b : ℕ) → b ≤ l.before → IsLeaked (abstraction l.world) b → ⊥
