use Rattle.std.proofs.Common.{◌≡◌, ℕ, List, [], ◌∷◌}
use Rattle.scene_structures.proofs.Prelude.{Carries, Cell, DeskNow, EndsInOrder, HasHands}
use Rattle.scene_structures.proofs.Prelude.{IsSameDesk, IsWithin, KeepsOthers, KeepsThese, node_in}
use Rattle.scene_structures.proofs.Prelude.{NumberedHandle, object_of, ReachesNode}
use Rattle.scene_structures.proofs.lists.removals.cut_below.Given as goal

abbrev pub invariant-loop : goal.invariant-loop
invariant-loop g l = record {
  carries : Carries l.domain l.desk l.pile;
  others : KeepsOthers l.initial.desk l.initial.pile.endings.items l.desk l.pile.endings.items;
  order : EndsInOrder l.initial.desk l.initial.pile.endings.items l.desk l.pile.endings.items;
  none : l.pile.endings.items ≡ [];
  held : l.desk.held ≡ l.initial.desk.held;
  same : IsSameDesk l.initial.desk l.desk;
  node : IsWithin l.before.block l.before.place;
  bag : (base : List NumberedHandle) → HasHands base (l.initial.before ∷ []) l.initial.desk → HasHands base (l.before ∷ []) l.desk;
  latest : (base : List NumberedHandle) → HasHands base (l.initial.before ∷ []) l.initial.desk → KeepsThese base l.initial.desk l.desk;
  own : (d : DeskNow g.row.V.Denot) (c : Cell) (bs : List ℕ)
      → ReachesNode d c (object_of (node_in l.initial.desk l.node)) bs l.initial.before l.initial.desk
      → (passed : List ℕ) × ReachesNode d c (object_of (node_in l.initial.desk l.node)) passed l.before l.desk;
}
