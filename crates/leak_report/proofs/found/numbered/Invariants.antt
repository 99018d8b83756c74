use Rattle.std.proofs.Common.{◌≡◌, take}
use Rattle.leak_report.proofs.Prelude.{numbered}
use Rattle.leak_report.proofs.found.numbered.Given as goal

abbrev pub invariant-loop-holding : goal.invariant-loop-holding
invariant-loop-holding l = l.moved.items ≡ numbered 0 (take l.holding-index l.holdings)
