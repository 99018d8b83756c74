use Rattle.std.proofs.Common.{◌≡◌, ℕ, ◌%◌, ◌^◌, List, []}
use Rattle.scene_structures.proofs.Prelude.{Carries, CutsAll, EndsInOrder, HasHands, IsSameDesk}
use Rattle.scene_structures.proofs.Prelude.{KeepsOthers, KeepsThese, NumberedHandle, shared_cell}
use Rattle.scene_structures.proofs.lists.prunes.clear_front.Given as goal

abbrev pub invariant-loop : goal.invariant-loop
invariant-loop g l = record {
  carries : Carries l.domain l.desk l.pile;
  others : KeepsOthers l.initial.desk l.initial.pile.endings.items l.desk l.pile.endings.items;
  order : EndsInOrder l.initial.desk l.initial.pile.endings.items l.desk l.pile.endings.items;
  none : l.pile.endings.items ≡ [];
  held : l.desk.held ≡ l.initial.desk.held;
  same : IsSameDesk l.initial.desk l.desk;
  bag : (base : List NumberedHandle) → HasHands base [] l.initial.desk → HasHands base [] l.desk;
  latest : (base : List NumberedHandle) → HasHands base [] l.initial.desk → KeepsThese base l.initial.desk l.desk;
  own : (n : ℕ) × (l.count ≡ n % 2 ^ 32) × CutsAll l.initial.desk (shared_cell l.initial.desk l.at.site) n l.desk;
}
