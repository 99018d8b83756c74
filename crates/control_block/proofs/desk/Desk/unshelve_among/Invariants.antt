use Rattle.std.proofs.Common.{◌≡◌, ℕ, ◌/◌, ◌<◌, ◌≤◌}
use Rattle.control_block.proofs.Prelude.{Belongs, IsSole, on_shelf, state_of, Unshelved}
use Rattle.control_block.proofs.desk.Desk.unshelve_among.Given as goal

abbrev pub invariant-loop-word : goal.invariant-loop-word
invariant-loop-word g l =
    record {
      belongs : Belongs l.self l.domain;
      few : l.taken ≤ l.count;
      passed : Unshelved l.taken l.initial.self l.self;
      same : l.taken ≡ 0 → l.self ≡ l.initial.self;
      cleared : IsSole l.initial.self → l.taken < l.count
          → (b : ℕ) → l.from ≤ b / 64 → b / 64 < l.word → on_shelf (state_of l.self) b ≡ 0;
    }
