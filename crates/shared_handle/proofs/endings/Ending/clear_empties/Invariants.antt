use Rattle.std.proofs.Common.{◌≡◌, ◌-◌}
use Rattle.shared_handle.proofs.Prelude.{bag_of, Does, endings_of, EndsInHand, IsParting, IsSameDesk, KeepsOtherEndings}
use Rattle.control_block.specs.Own.{KeepsLatest}
use Rattle.shared_handle.specs.Piles.{ClearsByLooks}
use Rattle.shared_handle.proofs.endings.Ending.clear_empties.Given as goal

abbrev pub invariant-loop-self : goal.invariant-loop-self
invariant-loop-self g l =
    EndsInHand l.desk l.self
    × ClearsByLooks l.initial.desk l.initial.self l.desk l.self
    × (l.self.block ≡ l.initial.self.block) × (l.self.value ≡ l.initial.self.value)
    × Does IsParting l.initial.desk l.desk × (bag_of l.desk ≡ bag_of l.initial.desk) × (l.desk.held ≡ l.initial.desk.held)
    × IsSameDesk l.initial.desk l.desk × KeepsOtherEndings l.initial.desk l.initial.self.block.0 l.desk
    × (endings_of l.desk ≡ endings_of l.initial.desk) × KeepsLatest l.initial.desk l.desk

abbrev pub decreases-loop-self : goal.decreases-loop-self
decreases-loop-self g l = l.self.members - l.self.cleared
