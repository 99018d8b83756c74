-- What stores and pointers tell in a state, as replies do.
use Rattle.std.proofs.Common.{◌≡◌, ℕ, Bool, true, false, cond, List, [], ◌∷◌, ◌==◌, Some, None}
use Rattle.std.proofs.Common.{Option, option_map, refl}
use Rattle.step_core.proofs.Prelude
use Prelude.{copies, ended_by, Event, event_of, field_of, filter, give, Handle, handle_of}
use Prelude.{is_enabled, is_last, IsLeaveEvent, Kind, least, leave_as, leaves_as, lesser, Nothing}
use Prelude.{On, on, owned, Owner, owner, place_at, share_as, State, Stored, Weak, weak_of}
use Rattle.control_word.specs.declared.model.event.Event.TheVariants as event
use Rattle.step_core.proofs.Entries.{giving}

abbrev pub Events : Type 0
Events = Option (Event Nothing)

lesser_some : (b : ℕ) (o : Option ℕ) → lesser b o ≡ None → ⊥
lesser_some b None e = cc
lesser_some b (Some c) e = cc

none_of : (b : Bool) (x : Stored) (o : Option ℕ) (l : List Stored) → (o ≡ None → l ≡ []) → cond b (lesser x.block o) o ≡ None
    → cond b (x ∷ l) l ≡ []
none_of true x o l rest e = absurd (lesser_some x.block o e)
none_of false x o l rest e = rest e

-- a store without a least block is empty
pub none_stored : (d : ℕ) (xs : List Stored) → least d xs ≡ None → filter (λ (x : Stored). x.desk == d) xs ≡ []
none_stored d [] e = refl
none_stored d (x ∷ xs) e = none_of (x.desk == d) x (least d xs) (filter (λ (y : Stored). y.desk == d) xs) (none_stored d xs) e

module _ (s : State) where
  pub shared : (q : Kind) (x : Handle) → ◌≡◌ {A = Events} (event_of s (share_as q x)) (Some (copies s q x.place x))
  shared Owner x = refl
  shared Weak x = refl

  pub gives : (q : Kind) (x : Handle) → ◌≡◌ {A = Events} (event_of s (give q x)) (Some (copies s q (place_at x.block.0) x))
  gives Owner x = refl
  gives Weak x = refl

  pub left : (q : Kind) (last : Bool) (x : Handle) → ◌≡◌ {A = Events} (event_of s (leave_as q x last)) (Some (leaves_as s q last x))
  left Owner last x = refl
  left Weak last x = refl

  abbrev pub leaving_event : Handle → Event Nothing
  leaving_event x = leaves_as s x.kind (is_last s x) x

  pub leave_makes : (o : Option Handle) → IsLeaveEvent s o (on (is_last s) false o) (ended_by s o) (option_map leaving_event o)
  leave_makes None = (refl, refl, refl)
  leave_makes (Some x) = (refl, refl)

  pub this_makes : (q : Kind) (o : Option Handle)
      → let g = λ (x : Handle). copies {V = Nothing} s q (place_at x.block.0) x in
      let got = on (is_enabled s) false o in
      let e = option_map g (giving s o) in
      On (λ x. (got ≡ is_enabled s x) × (e ≡ cond got (Some (g x)) None)) ((got ≡ false) × (e ≡ None)) o
  this_makes q None = (refl, refl)
  this_makes q (Some x) = (refl, go (is_enabled s x))
    where
      go : (b : Bool)
          → let g = λ (x : Handle). copies {V = Nothing} s q (place_at x.block.0) x in
          option_map g (cond b (Some x) None) ≡ cond b (Some (g x)) None
      go true = refl
      go false = refl

  -- what is so of what a pointer tells
  pub on_pointer : {A : Type 0} (f : Handle → A) (none : A) (g : Handle → A → Event Nothing) (o : Option Handle)
      → let n = on f none o in
      let e = option_map (λ (x : Handle). g x (f x)) o in
      On (λ x. e ≡ Some (g x n)) ((n ≡ none) × (e ≡ None)) o
  on_pointer f none g None = (refl, refl)
  on_pointer f none g (Some x) = refl

  -- events of what is told of a pointer
  abbrev pub locking : Handle → Bool → Event Nothing
  locking x got = event.Lock (weak_of (owned s x) x.place) got

  abbrev pub reading : ℕ → Handle → Event Nothing
  reading m x = event.Read (owner (owned s x) x.place) m

  abbrev pub counting : Handle → ℕ → Event Nothing
  counting x m = event.Count (handle_of s x) m

  abbrev pub expiring : Handle → Bool → Event Nothing
  expiring x b = event.Expired (handle_of s x) b

  pub read_makes : (o : Option Handle)
      → let e = option_map (λ (x : Handle). reading (field_of s x) x) o in
      On (λ x. e ≡ Some (reading (on (field_of s) 0 o) x)) (e ≡ None) o
  read_makes None = refl
  read_makes (Some x) = refl
