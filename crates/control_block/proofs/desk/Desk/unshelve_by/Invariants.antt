use Rattle.std.proofs.Common.{◌≡◌, ◌≤◌}
use Rattle.control_block.proofs.Prelude.{Belongs, Unshelved}
use Rattle.control_block.proofs.desk.Desk.unshelve_by.Given as goal

abbrev pub invariant-loop-step : goal.invariant-loop-step
invariant-loop-step g l =
    record {
      belongs : Belongs l.self l.domain;
      few : l.taken ≤ l.count;
      passed : Unshelved l.taken l.fn.self l.self;
      same : l.taken ≡ 0 → l.self ≡ l.fn.self;
    }
