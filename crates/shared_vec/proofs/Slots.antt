-- What a call on the place of an index says of the vector.
use Rattle.std.proofs.Common.{◌≡◌, ℕ, subst, Bool, Option, None, Some, Result, Ok, Err, IfOk}
use Rattle.control_word.specs.declared.model.handle.Kind.TheVariants.{Owner}
use Rattle.control_block.specs.Desks.{DeskNow}
use Rattle.pointers.specs.SiteCalls.{LookedFor}
use Rattle.pointers.specs.Sites.{Site, member_site}
use Rattle.pointers.specs.declared.known.Known.{Known}
use Rattle.shared_vec.specs.Vectors.{IsEmpty, IsLeaf, ReplacesIn, Sets, number_at, slot_at}

-- the place of an index, by the member of its leaf
at_slot : {V : Type 0} (P : Site V → Type 0) (i m : ℕ) (leaf : Known V) (at : Site V) → m ≡ number_at i 0
    → at ≡ member_site leaf m → P at → P (slot_at i leaf)
at_slot P i m leaf at number there is =
    subst (λ (y : ℕ). P (member_site leaf y)) number (subst P there is)

module _ {V : Type 0} (o : DeskNow V) where
  pub tells : {E : Type 0} (s : Site V) (i m : ℕ) (leaf : Known V) (got : Option (Known V)) (at : Site V)
      (r : Result Bool E) → IsLeaf o s i got → got ≡ Some leaf → m ≡ number_at i 0 → at ≡ member_site leaf m
      → IfOk r (LookedFor o Owner at None) → IfOk r (IsEmpty o s i)
  tells s i m leaf got at (Err why) way some number there looked = tt
  tells s i m leaf got at (Ok empty) way some number there looked = (
    Some leaf,
    subst (IsLeaf o s i) some way,
    at_slot (λ (y : Site V). LookedFor o Owner y None empty) i m leaf at number there looked,
  )

  pub sets : {E : Type 0} (s : Site V) (i m : ℕ) (leaf new : Known V) (got : Option (Known V)) (at : Site V)
      (r : Result (Option (Known V)) E) → IsLeaf o s i got → got ≡ Some leaf → m ≡ number_at i 0
      → at ≡ member_site leaf m → IfOk r (ReplacesIn o at new) → IfOk r (Sets o s i new)
  sets s i m leaf new got at (Err why) way some number there replaces = tt
  sets s i m leaf new got at (Ok back) way some number there replaces = (
    Some leaf,
    subst (IsLeaf o s i) some way,
    at_slot (λ (y : Site V). ReplacesIn o y new back) i m leaf at number there replaces,
  )
