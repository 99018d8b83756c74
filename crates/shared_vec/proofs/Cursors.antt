-- A leaf that is kept.
use Rattle.std.proofs.Common.{◌≡◌, ◌/◌, ℕ, true, subst, Option, None, Some, Result, Ok, Err, IfOk, is_some}
use Rattle.control_word.specs.declared.model.handle.Kind.TheVariants.{Owner}
use Rattle.control_block.specs.Desks.{DeskNow}
use Rattle.pointers.specs.SiteCalls.{Loaded}
use Rattle.pointers.specs.Sites.{Site, member_site}
use Rattle.pointers.specs.declared.known.Known.{Known}
use Rattle.shared_vec.proofs.Ways.{same_leaf}
use Rattle.shared_vec.specs.Cursors.{IsKept}
use Rattle.shared_vec.specs.Vectors.{Gets, IsLeaf, number_at}

module _ {V : Type 0} (o : DeskNow V) where
  -- the leaf of one index is that of each other of the same eight
  pub near : (s : Site V) (i j : ℕ) (leaf : Option (Known V)) → is_some leaf ≡ true → i / 8 ≡ j / 8
      → IsKept o s i leaf → IsLeaf o s j leaf
  near s i j None some same kept = absurd cc
  near s i j (Some leaf) some same kept = same_leaf o s i j (Some leaf) same kept

  -- a load of the index's place in its leaf
  pub gets_in : {E : Type 0} (s : Site V) (i m : ℕ) (leaf : Known V) (got : Option (Known V)) (at : Site V)
      (r : Result (Option (Known V)) E) → m ≡ number_at i 0 → at ≡ member_site leaf m → IfOk r (Loaded o Owner at)
      → got ≡ Some leaf → IsLeaf o s i got → IfOk r (Gets o s i)
  gets_in s i m leaf got at (Err why) number there loaded some way = tt
  gets_in s i m leaf got at (Ok element) number there loaded some way = (
    Some leaf,
    subst (IsLeaf o s i) some way,
    subst (λ (y : ℕ). Loaded o Owner (member_site leaf y) element) number
        (subst (λ (y : Site V). Loaded o Owner y element) there loaded),
  )
