use Rattle.std.proofs.Common.{◌≡◌, ℕ, ◌/◌, ◌%◌, ◌<◌, ◌≤◌}
use Rattle.control_block.proofs.Prelude.{Belongs, bit_at, IsSole, on_shelf, state_of, Unshelved}
use Rattle.control_block.specs.ShelfStepKinds.{HasBlocks}
use Rattle.control_block.proofs.desk.Desk.unshelve_from.Given as goal

abbrev pub invariant-loop-bits : goal.invariant-loop-bits
invariant-loop-bits g l =
    record {
      belongs : Belongs l.self l.domain;
      few : l.taken ≤ l.count;
      passed : Unshelved l.taken l.initial.self l.self;
      same : l.taken ≡ 0 → l.self ≡ l.initial.self;
      inside : HasBlocks l.domain.shape.blocks l.word l.bits;
      rest : IsSole l.initial.self
          → (b : ℕ) → b / 64 ≡ l.word → bit_at l.bits (b % 64) ≡ 0 → on_shelf (state_of l.self) b ≡ 0;
    }

abbrev pub decreases-loop-bits : goal.decreases-loop-bits
decreases-loop-bits g l = l.bits
