use Rattle.std.proofs.Common.{◌≡◌, List, [], ◌∷◌}
use Rattle.scene_structures.proofs.Prelude.{Carries, EndsInOrder, Event, FoldsBack, HasHands}
use Rattle.scene_structures.proofs.Prelude.{HasLooked, IsSameDesk, KeepsOthers, node_in}
use Rattle.scene_structures.proofs.Prelude.{NumberedHandle, SeenNode, told_of, Walks}
use Rattle.scene_structures.proofs.lists.walks.walk.Given as goal

abbrev pub invariant-loop : goal.invariant-loop
invariant-loop g l = record {
  carries : Carries l.domain l.desk l.pile;
  others : KeepsOthers l.initial.desk l.initial.pile.endings.items l.desk l.pile.endings.items;
  order : EndsInOrder l.initial.desk l.initial.pile.endings.items l.desk l.pile.endings.items;
  none : l.pile.endings.items ≡ [];
  held : l.desk.held ≡ l.initial.desk.held;
  same : IsSameDesk l.initial.desk l.desk;
  bag : (base : List NumberedHandle) → HasHands base (l.initial.node ∷ []) l.initial.desk → HasHands base (l.node ∷ []) l.desk;
  walked : (stops : List SeenNode) × (looks : List (Event g.row.V.Denot))
      × Walks (node_in l.initial.desk l.initial.node) stops (node_in l.desk l.node) looks × HasLooked l.initial.desk looks l.desk
      × FoldsBack (λ p x q. goal.F-step g p x tt q) l.initial.tell (told_of stops) l.tell;
  always : goal.F-IsAlwaysCallable g l.tell;
}
