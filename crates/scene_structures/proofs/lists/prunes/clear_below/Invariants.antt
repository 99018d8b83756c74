use Rattle.std.proofs.Common.{◌≡◌, ℕ, ◌+◌, ◌%◌, ◌^◌, List, [], ◌∷◌, Some}
use Rattle.scene_structures.proofs.Prelude.{Carries, Cell, DeskNow, EndsInOrder, HasHands}
use Rattle.scene_structures.proofs.Prelude.{IsSameDesk, IsWithin, KeepsOthers, NumberedHandle}
use Rattle.scene_structures.proofs.Prelude.{Prunes}
use Rattle.scene_structures.proofs.lists.prunes.clear_below.Given as goal

abbrev pub invariant-loop : goal.invariant-loop
invariant-loop g l = record {
  carries : Carries l.domain l.desk l.pile;
  others : KeepsOthers l.initial.desk l.initial.pile.endings.items l.desk l.pile.endings.items;
  order : EndsInOrder l.initial.desk l.initial.pile.endings.items l.desk l.pile.endings.items;
  none : l.pile.endings.items ≡ [];
  held : l.desk.held ≡ l.initial.desk.held;
  same : IsSameDesk l.initial.desk l.desk;
  node : IsWithin l.node.block l.node.place;
  bag : (base : List NumberedHandle) → HasHands base (l.initial.node ∷ []) l.initial.desk → HasHands base (l.node ∷ []) l.desk;
  own : (d : DeskNow g.row.V.Denot) (c : Cell) (os : List ℕ) (a : ℕ) → Prunes d c os a (Some l.initial.node) l.initial.desk
      → (n : ℕ) × (l.count ≡ n % 2 ^ 32) × ((kept : List ℕ) × Prunes d c kept (a + n) (Some l.node) l.desk);
}
