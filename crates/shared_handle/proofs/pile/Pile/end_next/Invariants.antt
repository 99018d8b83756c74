use Rattle.std.proofs.Common.{◌≡◌, ℕ, ◌-◌, ◌∷◌}
use Rattle.shared_handle.proofs.Prelude.{bag_of, Does, IsParting, IsSameDesk, KeepsElsewhere, Stacked}
use Rattle.shared_handle.specs.Piles.{ClearsInTurn}
use Rattle.shared_handle.proofs.pile.Pile.end_next.Given as goal

abbrev pub invariant-loop-self : goal.invariant-loop-self
invariant-loop-self g l =
    Stacked l.domain l.desk l.self l.ending
    × KeepsElsewhere l.initial.desk (l.initial.ending ∷ l.initial.self.endings.items) l.desk (l.ending ∷ l.self.endings.items)
    × ((n : ℕ) × ClearsInTurn n (record { desk = l.initial.desk; pile = l.initial.self.endings.items; ending = l.initial.ending })
    (record { desk = l.desk; pile = l.self.endings.items; ending = l.ending }))
    × Does IsParting l.initial.desk l.desk × (bag_of l.desk ≡ bag_of l.initial.desk) × (l.desk.held ≡ l.initial.desk.held)
    × IsSameDesk l.initial.desk l.desk

abbrev pub decreases-loop-self : goal.decreases-loop-self
decreases-loop-self g l = l.ending.members - l.ending.cleared
