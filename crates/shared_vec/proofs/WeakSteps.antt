-- What a call on a holder says of the vector of weak pointers.
use Rattle.std.proofs.Common.{◌≡◌, ℕ, refl, subst, Option, None, Some, Result, Ok, Err, IfOk, OnOk}
use Rattle.control_word.specs.declared.model.handle.Kind.TheVariants.{Weak}
use Rattle.control_block.specs.Desks.{DeskNow}
use Rattle.pointers.specs.Known.{AreOfOne}
use Rattle.pointers.specs.SiteCalls.{Exchanged, Loaded, Locked, Stored}
use Rattle.pointers.specs.Sites.{Site, member_site}
use Rattle.pointers.specs.declared.known.Known.{Known}
use Rattle.shared_vec.specs.Vectors.{Gets, Pops, Pushes}
use Rattle.shared_vec.specs.WeakVectors.{GetsWeak, Holds, Locks, PopsWeak, PushesWeak, SetsWeak}

module _ {V : Type 0} (o : DeskNow V) where
  pub holds : {E : Type 0} (holder new copy : Known V) (at : Site V) (r : Result (Unit {0}) E) → AreOfOne o new copy
      → at ≡ member_site holder 0 → OnOk r (Stored o Weak at (Some copy)) → OnOk r (Holds o holder new)
  holds holder new copy at (Err why) one there stored = tt
  holds holder new copy at (Ok done) one there stored =
      (copy, one, subst (λ (y : Site V). Stored o Weak y (Some copy)) there stored)

  pub gets_weak : {E : Type 0} (s : Site V) (i : ℕ) (holder : Known V) (got : Option (Known V)) (at : Site V)
      (r : Result (Option (Known V)) E) → Gets o s i got → got ≡ Some holder → at ≡ member_site holder 0
      → IfOk r (Loaded o Weak at) → IfOk r (GetsWeak o s i)
  gets_weak s i holder got at (Err why) gets some there loaded = tt
  gets_weak s i holder got at (Ok weak) gets some there loaded = (
    Some holder,
    subst (Gets o s i) some gets,
    subst (λ (y : Site V). Loaded o Weak y weak) there loaded,
  )

  pub locks_weak : {E : Type 0} (s : Site V) (i : ℕ) (holder : Known V) (got : Option (Known V)) (at : Site V)
      (r : Result (Option (Known V)) E) → Gets o s i got → got ≡ Some holder → at ≡ member_site holder 0
      → IfOk r (Locked o at) → IfOk r (Locks o s i)
  locks_weak s i holder got at (Err why) gets some there locked = tt
  locks_weak s i holder got at (Ok owner) gets some there locked = (
    Some holder,
    subst (Gets o s i) some gets,
    subst (λ (y : Site V). Locked o y owner) there locked,
  )

  pub sets_weak : (s : Site V) (i : ℕ) (holder new : Known V) (got : Option (Known V)) → Gets o s i got
      → got ≡ Some holder → Holds o holder new → SetsWeak o s i new None
  sets_weak s i holder new got gets some held = (Some holder, subst (Gets o s i) some gets, (refl, held))

  pub pushes_weak : (s : Site V) (n : ℕ) (holder new : Known V) → Holds o holder new → Pushes o s holder n
      → PushesWeak o s new n
  pushes_weak s n holder new held pushed = (holder, held, pushed)

  pub pops_weak : {E : Type 0} (s : Site V) (holder : Known V) (got : Option (Known V)) (at : Site V)
      (r : Result (Option (Known V)) E) → Pops o s got → got ≡ Some holder → at ≡ member_site holder 0
      → IfOk r (Exchanged o Weak at None) → IfOk r (PopsWeak o s)
  pops_weak s holder got at (Err why) popped some there taken = tt
  pops_weak s holder got at (Ok weak) popped some there taken = (
    Some holder,
    subst (Pops o s) some popped,
    subst (λ (y : Site V). Exchanged o Weak y None weak) there taken,
  )
