use Rattle.std.proofs.Common.{◌≡◌, List, []}
use Rattle.scene_structures.proofs.Prelude.{Carries, Does, EndsInOrder, HasHands, in_no_cell}
use Rattle.scene_structures.proofs.Prelude.{IsSameDesk, KeepsOthers, KeepsThese, NumberedHandle}
use Rattle.scene_structures.proofs.Prelude.{PutsOnly}
use Rattle.scene_structures.proofs.lists.removals.cut.Given as goal

abbrev pub invariant-loop : goal.invariant-loop
invariant-loop g l = record {
  carries : Carries l.domain l.desk l.pile;
  others : KeepsOthers l.initial.desk l.initial.pile.endings.items l.desk l.pile.endings.items;
  order : EndsInOrder l.initial.desk l.initial.pile.endings.items l.desk l.pile.endings.items;
  none : l.pile.endings.items ≡ [];
  held : l.desk.held ≡ l.initial.desk.held;
  same : IsSameDesk l.initial.desk l.desk;
  bag : (base : List NumberedHandle) → HasHands base [] l.initial.desk → HasHands base [] l.desk;
  latest : (base : List NumberedHandle) → HasHands base [] l.initial.desk → KeepsThese base l.initial.desk l.desk;
  tried : Does (PutsOnly in_no_cell) l.initial.desk l.desk;
}
