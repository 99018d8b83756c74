use Rattle.std.proofs.Common.{◌≡◌, ◌+◌, List, [], ◌∷◌, ◌++◌, length}
use Rattle.shared_handle.proofs.Prelude.{AreRounds, bag_of, Does, IsParting, IsSameDesk}
use Rattle.shared_handle.proofs.Prelude.{KeepsElsewhere, Past, Stacked, values_of}
use Rattle.shared_handle.proofs.pile.Pile.next_value.Given as goal

abbrev pub invariant-loop-rounds : goal.invariant-loop-rounds
invariant-loop-rounds g l =
    Stacked l.domain l.desk l.self l.top
    × KeepsElsewhere l.initial.desk l.fn.self.endings.items l.desk (l.self.endings.items ++ l.top ∷ [])
    × ((rs : List (Past g.row.V.Denot))
    × AreRounds l.initial.desk l.fn.self.endings.items rs l.desk (l.self.endings.items ++ l.top ∷ [])
    × (length rs + l.rounds ≡ l.fn.rounds) × (values_of rs ≡ []))
    × Does IsParting l.initial.desk l.desk × (bag_of l.desk ≡ bag_of l.initial.desk) × (l.desk.held ≡ l.initial.desk.held)
    × IsSameDesk l.initial.desk l.desk

abbrev pub decreases-loop-rounds : goal.decreases-loop-rounds
decreases-loop-rounds g l = l.rounds
