use Rattle.std.proofs.Common.{◌≡◌, length}
use Rattle.control_block.proofs.Prelude.{member_holders}
use Rattle.control_block.specs.AllHolders.{Notes}
use Rattle.control_block.proofs.census.Census.note_all_members.Given as goal

abbrev pub invariant-loop-before : goal.invariant-loop-before
invariant-loop-before g l = (length l.all.items ≡ l.self.blocks)
    × Notes l.self (λ b. member_holders l.self b l.before) l.fn.all.items l.all.items
