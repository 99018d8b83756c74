use Rattle.std.proofs.Common.{◌≡◌, length}
use Rattle.control_block.specs.AllHolders.{Notes}
use Rattle.control_block.specs.Holders.{some_members}
use Rattle.control_block.proofs.census.Census.note_members.Given as goal

abbrev pub invariant-loop-member : goal.invariant-loop-member
invariant-loop-member g l = (length l.all.items ≡ l.self.blocks)
    × Notes l.self (λ b. some_members l.self b l.of.0 l.member) l.fn.all.items l.all.items
