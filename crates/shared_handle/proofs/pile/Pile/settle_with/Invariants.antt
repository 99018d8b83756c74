use Rattle.std.proofs.Common.{◌≡◌, List}
use Rattle.shared_handle.proofs.Prelude.{AreRounds, bag_of, Carries, Does, FoldsBack, IsParting}
use Rattle.shared_handle.proofs.Prelude.{IsSameDesk, KeepsElsewhere, Past, values_of}
use Rattle.shared_handle.proofs.pile.Pile.settle_with.Given as goal

abbrev pub invariant-loop : goal.invariant-loop
invariant-loop g l =
    Carries l.domain l.desk l.self
    × KeepsElsewhere l.initial.desk l.initial.self.endings.items l.desk l.self.endings.items
    × ((rs : List (Past g.row.V.Denot)) × AreRounds l.initial.desk l.initial.self.endings.items rs l.desk l.self.endings.items
    × FoldsBack (λ p x q. goal.F-step g p x tt q) l.initial.take (values_of rs) l.take)
    × Does IsParting l.initial.desk l.desk × (bag_of l.desk ≡ bag_of l.initial.desk) × (l.desk.held ≡ l.initial.desk.held)
    × IsSameDesk l.initial.desk l.desk × goal.F-IsAlwaysCallable g l.take
