use Rattle.std.proofs.Common.{◌≡◌, length}
use Rattle.control_block.proofs.Prelude.{free_holders}
use Rattle.control_block.specs.AllHolders.{Notes}
use Rattle.control_block.proofs.census.Census.note_free.Given as goal

abbrev pub invariant-loop-number : goal.invariant-loop-number
invariant-loop-number g l = (length l.all.items ≡ l.self.blocks)
    × Notes l.self (λ b. free_holders l.self b l.number) l.fn.all.items l.all.items
