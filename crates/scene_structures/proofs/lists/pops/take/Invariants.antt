use Rattle.std.proofs.Common.{◌≡◌, List, [], ◌∷◌}
use Rattle.scene_structures.proofs.Prelude.{Carries, DeskNow, EndsInOrder, Free, HasHands}
use Rattle.scene_structures.proofs.Prelude.{IsSameDesk, KeepsOthers, Looks, NumberedHandle}
use Rattle.scene_structures.proofs.lists.pops.take.Given as goal

abbrev pub invariant-loop : goal.invariant-loop
invariant-loop g l = record {
  carries : Carries l.domain l.desk l.pile;
  others : KeepsOthers l.initial.desk l.initial.pile.endings.items l.desk l.pile.endings.items;
  order : EndsInOrder l.initial.desk l.initial.pile.endings.items l.desk l.pile.endings.items;
  none : l.pile.endings.items ≡ [];
  held : l.desk.held ≡ l.initial.desk.held;
  same : IsSameDesk l.initial.desk l.desk;
  bag : (base : List NumberedHandle) → HasHands base (l.initial.top ∷ []) l.initial.desk → HasHands base (l.top ∷ []) l.desk;
  own : (d : DeskNow g.row.V.Denot) → Looks d (Free l.cell) l.initial.top l.initial.desk → Looks d (Free l.cell) l.top l.desk;
}
