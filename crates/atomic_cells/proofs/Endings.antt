-- What ends in the desk's hands after a store.
use Rattle.std.proofs.Common.{◌≡◌, ℕ, List, [], ◌∷◌, Option, sym, refl}
use Rattle.control_word.specs.declared.model.event.Cell.{Cell}
use Rattle.control_word.specs.declared.place.Block.{Block}
use Rattle.control_word.specs.declared.place.Place.{Place}
use Rattle.control_block.specs.Desks.{DeskNow}
use Rattle.shared_handle.proofs.Piles.{EndsApart}
use Rattle.shared_handle.specs.Endings.{IsApart, IsGone, more_ending}
use Rattle.shared_handle.specs.Piles.{AllEnd, NotAmong, piled}
use Rattle.shared_handle.specs.declared.endings.Ending.{Ending}
use Rattle.shared_handle.specs.declared.endings.Left.{Left}
use Rattle.shared_handle.specs.declared.endings.Left.TheVariants.{Empty, Last, Others}
use Rattle.atomic_cells.specs.Cells.{Stores}

module _ {V : Type 0} where
  none_of : (d : DeskNow V) (x : Ending V) (xs : List (Ending V)) → IsApart d (Last x) → AllEnd d xs → NotAmong x.block.0 xs
  none_of d x [] apart all = tt
  none_of d x (y ∷ xs) apart all = ((λ same. apart y.block.0 all.0.ends.phase (sym same)), none_of d x xs apart all.2)

  -- what came out of the cell may have been an object's last owner
  pub stored_ends : (d e : DeskNow V) (c : Cell) (b : Option Block) (p : Option Place) (left : Left V) → Stores d c b p left e → IsApart d left
      → EndsApart d left e
  stored_ends d e c b p Empty stores apart xs all = tt
  stored_ends d e c b p Others stores apart xs all = tt
  stored_ends d e c b p (Last x) stores apart xs all = (stores.leaves.2, none_of d x xs apart all)

  -- a weak handle that came out ends nothing
  pub weak_none : (b : Option Block) (left : Left V) → IsGone b left → ◌≡◌ {A = ℕ} (more_ending left) 0
  weak_none b Empty gone = refl
  weak_none b Others gone = refl
  weak_none b (Last x) gone = absurd gone

  pub weak_piled : (b : Option Block) (left : Left V) (xs : List (Ending V)) → IsGone b left → piled xs left ≡ xs
  weak_piled b Empty xs gone = refl
  weak_piled b Others xs gone = refl
  weak_piled b (Last x) xs gone = absurd gone
