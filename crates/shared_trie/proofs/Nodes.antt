-- New nodes.
use Rattle.std.proofs.Common.{◌≡◌, ◌∙◌, ◌==◌, ℕ, ap, Option, Some, Result, Ok, Err, IfOk}
use Rattle.control_word.specs.declared.place.Place.{Place}
use Rattle.control_block.specs.Desks.{DeskNow}
use Rattle.pointers.specs.Known.{AreOfOne, pointed}
use Rattle.pointers.specs.Objects.{MakesPlain}
use Rattle.pointers.specs.declared.fault.Fault.{Fault}
use Rattle.pointers.specs.declared.known.Known.{Known}
use Rattle.shared_trie.specs.Tries.{IsNewNode, is_node_at}

module _ {V : Type 0} (o : DeskNow V) where
  pub is_new : (made c : Known V) (x : V) (p : Option Place) (q : Place) → MakesPlain o x made → AreOfOne o made c
      → pointed c ≡ p → p ≡ Some q → q.field ≡ 3 → IsNewNode o c
  is_new made c x p q makes one points some field =
      let at : is_node_at (pointed c) ≡ is_node_at (Some q) = ap is_node_at (points ∙ some) in
      (made, x, makes, one, at ∙ ap (λ (n : ℕ). n == 3) field)

  pub is_new_if : (r : Result (Known V) Fault) (made : Known V) (x : V) (p : Option Place) (q : Place)
      → MakesPlain o x made → IfOk r (AreOfOne o made) → IfOk r (λ (c : Known V). pointed c ≡ p) → p ≡ Some q
      → q.field ≡ 3 → IfOk r (IsNewNode o)
  is_new_if (Ok c) made x p q makes one points some field = is_new made c x p q makes one points some field
  is_new_if (Err why) made x p q makes one points some field = tt
