-- A new root above an older one.
use Rattle.std.proofs.Common.{◌≡◌, ◌+◌, ℕ, Bool, false, subst, [], ◌∷◌, Option, Some, Result, Ok, Err, IfOk}
use Rattle.control_word.specs.declared.model.handle.Kind.TheVariants.{Owner}
use Rattle.control_block.specs.Desks.{DeskNow}
use Rattle.pointers.specs.Known.{AreOfOne}
use Rattle.pointers.specs.Objects.{Makes}
use Rattle.pointers.specs.SiteCalls.{Compared, Stored}
use Rattle.pointers.specs.Sites.{Site, member_site}
use Rattle.pointers.specs.declared.fault.Fault.{Fault}
use Rattle.pointers.specs.declared.known.Known.{Known}
use Rattle.shared_vec.specs.Vectors.{Grows}

module _ {V : Type 0} (o : DeskNow V) where
  pub grows : (s first : Site V) (root new copy : Known V) (l n : ℕ) (x : V) (hoped after : Option (Known V))
      (r : Result Bool Fault) → n ≡ l → Makes o false ((n + 1) ∷ 0 ∷ 0 ∷ 0 ∷ []) x new → AreOfOne o root copy
      → first ≡ member_site new 0 → Stored o Owner first (Some copy)
      → IfOk r (λ (swapped : Bool). Compared o Owner s false (Some root) (Some new) swapped hoped after)
      → IfOk r (Grows o s root l)
  grows s first root new copy l n x hoped after (Ok b) level makes one at stored compared = (
    new,
    copy,
    x,
    hoped,
    after,
    subst (λ (y : ℕ). Makes o false ((y + 1) ∷ 0 ∷ 0 ∷ 0 ∷ []) x new) level makes,
    one,
    subst (λ (y : Site V). Stored o Owner y (Some copy)) at stored,
    compared,
  )
  grows s first root new copy l n x hoped after (Err why) level makes one at stored compared = tt
