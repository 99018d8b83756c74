use Rattle.std.proofs.Common.{◌≡◌, ◌-◌}
use Rattle.control_block.specs.Desks.{IsSameDesk, KeepsOtherEndings, bag_of}
use Rattle.shared_handle.specs.Endings.{EndsInHand}
use Rattle.handle_tests.proofs.parts.end_of.Given as goal

abbrev pub invariant-loop-desk : goal.invariant-loop-desk
invariant-loop-desk g l =
    EndsInHand l.desk l.ending × (l.ending.block ≡ l.fn.ending.block) × KeepsOtherEndings l.fn.desk l.fn.ending.block.0 l.desk
    × IsSameDesk l.fn.desk l.desk × (bag_of l.desk ≡ bag_of l.fn.desk) × (l.desk.held ≡ l.fn.desk.held)

abbrev pub decreases-loop-desk : goal.decreases-loop-desk
decreases-loop-desk g l = l.ending.members - l.ending.cleared
