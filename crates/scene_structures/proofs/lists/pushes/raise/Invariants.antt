use Rattle.std.proofs.Common.{◌≡◌, List, [], ◌∷◌}
use Rattle.scene_structures.proofs.Prelude.{Carries, Does, EndsInOrder, HasHands, IsSameDesk}
use Rattle.scene_structures.proofs.Prelude.{KeepsOthers, KeepsThese, NextOf, node_in}
use Rattle.scene_structures.proofs.Prelude.{NumberedHandle, object_of, PutsOnly, SameNode}
use Rattle.scene_structures.proofs.lists.pushes.raise.Given as goal

abbrev pub invariant-loop : goal.invariant-loop
invariant-loop g l = record {
  carries : Carries l.domain l.desk l.pile;
  others : KeepsOthers l.initial.desk l.initial.pile.endings.items l.desk l.pile.endings.items;
  order : EndsInOrder l.initial.desk l.initial.pile.endings.items l.desk l.pile.endings.items;
  node : (l.attempt.node ≡ l.initial.attempt.node) × SameNode l.initial.desk l.initial.attempt.node l.desk;
  held : l.desk.held ≡ l.initial.desk.held;
  latest : (base : List NumberedHandle) → HasHands base (l.initial.attempt.top ∷ l.initial.attempt.node ∷ []) l.initial.desk
      → KeepsThese base l.initial.desk l.desk;
  same : IsSameDesk l.initial.desk l.desk;
  bag : (base : List NumberedHandle) → HasHands base (l.initial.attempt.top ∷ l.initial.attempt.node ∷ []) l.initial.desk
      → HasHands base (l.attempt.top ∷ l.attempt.node ∷ []) l.desk;
  own : Does (PutsOnly (NextOf (object_of (node_in l.initial.desk l.initial.attempt.node)))) l.initial.desk l.desk;
}
