use Rattle.std.proofs.Common.{◌-◌, ◌≤◌}
use Rattle.control_block.proofs.Prelude.{Belongs, Shelved}
use Rattle.control_block.proofs.desk.Desk.shelve.Given as goal

abbrev pub invariant-loop-shelved : goal.invariant-loop-shelved
invariant-loop-shelved g l =
    record { belongs : Belongs l.self l.domain; few : l.shelved ≤ l.most; passed : Shelved l.shelved l.initial.self l.self }

abbrev pub decreases-loop-shelved : goal.decreases-loop-shelved
decreases-loop-shelved g l = l.most - l.shelved
