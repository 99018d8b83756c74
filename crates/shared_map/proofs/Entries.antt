-- What a call on an entry of a key answers is what the map's call answers.
use Rattle.std.proofs.Common.{◌≡◌, ◌⊎◌, ℕ, refl, inr, Bool, false, true, subst, Option, None, Some, Result, Ok, Err, IfOk}
use Rattle.control_word.specs.declared.model.handle.Kind.TheVariants.{Owner, Weak}
use Rattle.control_block.specs.Desks.{DeskNow}
use Rattle.pointers.specs.Cells.{IsOwnerOf}
use Rattle.pointers.specs.SiteCalls.{Compared, Exchanged, Loaded}
use Rattle.pointers.specs.Sites.{Site, member_site}
use Rattle.pointers.specs.Objects.{IsField}
use Rattle.pointers.specs.declared.fault.Fault.{Fault}
use Rattle.pointers.specs.declared.known.Known.{Known}
use Rattle.shared_map.specs.Maps.{Gets, GetsWeak, Inserts, InsertsIfAbsent, InsertsIn, InsertsWeak, InsertsWeakIfExpired}
use Rattle.shared_map.specs.Maps.{Locks, LocksIn, Removes, RemovesWeak, Replaces}

module _ {V : Type 0} where
  pub gets : (o : DeskNow V) (key : ℕ) (e : Known V) (r : Result (Option (Known V)) Fault) → IsField o e key
      → IfOk r (Loaded o Owner (member_site e 0)) → IfOk r (Gets o key)
  gets o key e (Ok x) field is = inr (e, field, is)
  gets o key e (Err why) field is = tt

  pub removes : (o : DeskNow V) (key : ℕ) (e : Known V) (r : Result (Option (Known V)) Fault) → IsField o e key
      → IfOk r (Exchanged o Owner (member_site e 0) None) → IfOk r (Removes o key)
  removes o key e (Ok x) field is = inr (e, field, is)
  removes o key e (Err why) field is = tt

  pub gets_weak : (o : DeskNow V) (key : ℕ) (e : Known V) (r : Result (Option (Known V)) Fault) → IsField o e key
      → IfOk r (Loaded o Weak (member_site e 0)) → IfOk r (GetsWeak o key)
  gets_weak o key e (Ok x) field is = inr (e, field, is)
  gets_weak o key e (Err why) field is = tt

  pub removes_weak : (o : DeskNow V) (key : ℕ) (e : Known V) (r : Result (Option (Known V)) Fault) → IsField o e key
      → IfOk r (Exchanged o Weak (member_site e 0) None) → IfOk r (RemovesWeak o key)
  removes_weak o key e (Ok x) field is = inr (e, field, is)
  removes_weak o key e (Err why) field is = tt

  pub locks : (o : DeskNow V) (key : ℕ) (e : Known V) (r : Result (Option (Known V)) Fault) → IsField o e key
      → IfOk r (LocksIn o e) → IfOk r (Locks o key)
  locks o key e (Ok x) field is = inr (e, field, is)
  locks o key e (Err why) field is = tt

  pub inserts : (o : DeskNow V) (key : ℕ) (e new : Known V) (r : Result (Option (Known V)) Fault) → IsField o e key
      → IfOk r (Exchanged o Owner (member_site e 0) (Some new)) → IfOk r (Inserts o key new)
  inserts o key e new (Ok x) field is = (e, field, is)
  inserts o key e new (Err why) field is = tt

  pub inserts_if_absent : (o : DeskNow V) (key : ℕ) (e new : Known V) (r : Result (Option (Known V)) Fault) → IsField o e key
      → IfOk r (InsertsIn o e new) → IfOk r (InsertsIfAbsent o key new)
  inserts_if_absent o key e new (Ok x) field is = (e, field, is)
  inserts_if_absent o key e new (Err why) field is = tt

  pub inserts_weak : (o : DeskNow V) (key : ℕ) (e new : Known V) (r : Result (Option (Known V)) Fault) → IsField o e key
      → IfOk r (Exchanged o Weak (member_site e 0) (Some new)) → IfOk r (InsertsWeak o key new)
  inserts_weak o key e new (Ok x) field is = (e, field, is)
  inserts_weak o key e new (Err why) field is = tt

  pub inserts_if_expired : (o : DeskNow V) (key : ℕ) (e new : Known V) (r : Result (Option (Known V)) Fault) → IsField o e key
      → IfOk r (Replaces o e new) → IfOk r (InsertsWeakIfExpired o key new)
  inserts_if_expired o key e new (Ok x) field is = (e, field, is)
  inserts_if_expired o key e new (Err why) field is = tt

  -- a compare that put the new pointer where an expired one was
  pub replaced : (o : DeskNow V) (e new : Known V) (w w' n n' : Option (Known V)) (b : Bool) → IsOwnerOf o w None → n ≡ Some new → b ≡ true
      → Compared o Weak (member_site e 0) false w n b w' n' → Replaces o e new None
  replaced o e new w w' n n' b owner this b-is is =
      let here : Compared o Weak (member_site e 0) false w (Some new) true w' n'
      = subst (λ b. Compared o Weak (member_site e 0) false w (Some new) b w' n') b-is
      (subst (λ n. Compared o Weak (member_site e 0) false w n b w' n') this is) in
      (w, w', owner, subst (λ n'. Compared o Weak (member_site e 0) false w (Some new) true w' n') here.2 here)

  -- the same at the place of the entry
  pub replaced_at : (o : DeskNow V) (e new : Known V) (at : Site V) (w w' n n' : Option (Known V)) (b : Bool) → IsOwnerOf o w None
      → n ≡ Some new → b ≡ true → at ≡ member_site e 0 → Compared o Weak at false w n b w' n' → Replaces o e new None
  replaced_at o e new at w w' n n' b owner this b-is there is =
      replaced o e new w w' n n' b owner this b-is (subst (λ at. Compared o Weak at false w n b w' n') there is)

  -- what isn't an owner is none
  pub owner_none : (o : DeskNow V) (w r : Option (Known V)) → IsOwnerOf o w r → ((x : Known V) → r ≡ Some x → ⊥) → IsOwnerOf o w None
  owner_none o w None is not = is
  owner_none o w (Some x) is not = absurd (not x refl)
