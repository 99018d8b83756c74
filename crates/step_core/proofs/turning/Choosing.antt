-- What an act is replied is what the machine chooses.
use Rattle.std.proofs.Common.{◌≡◌, ℕ, Bool, true, false, cond, Some, None, Option, option_map}
use Rattle.std.proofs.Common.{refl}
use Rattle.step_core.proofs.Prelude
use Prelude.{Act, Alias, Ask, Clear, Compare, copies, Count, Downgrade, Drop, Event, exact}
use Prelude.{Exchange, Expired, FrameView, FromThis, hand, Handle, handle_of, History, Holds}
use Prelude.{inside, is_there, IsChosen, Kind, leads, least, Leave, leaves_as, Load, Lock, Make}
use Prelude.{may_go, Move, Nothing, NumberedHandle, Offer, offered, OnShelf, Opening, other, Owner}
use Prelude.{owner_slot, Place, Put, Read, Share, Shelve, slot_pointer, State, Swap, Telling}
use Prelude.{Unshelve, Weak, weak_slot}
use Rattle.control_word.specs.declared.model.event.Event.TheVariants as event
use Rattle.step_core.proofs.Entries.{giving}
use Rattle.step_core.proofs.following.Replies.{replied}

module _ (Exact : NumberedHandle → Type 0) (tell : Telling) (z : Opening) (d : ℕ) (h : History) (w : FrameView) where
  abbrev now : State
  now = leads z h

  abbrev Fine : Option (Event Nothing) → Type 0
  Fine e = IsChosen Exact now d e

  of_map : {A : Type 0} (f : A → Event Nothing) (o : Option A) → ((x : A) → o ≡ Some x → Fine (Some (f x))) → Fine (option_map f o)
  of_map f None p = tt
  of_map f (Some x) p = p x refl

  of_copies : (k : Kind) (p : Option Place) (x : Handle) → Fine (Some (copies now k p x))
  of_copies Owner p x = tt
  of_copies Weak p x = tt

  of_leaves : (k : Kind) (b : Bool) (x : Handle) → Fine (Some (leaves_as now k b x))
  of_leaves Owner b x = tt
  of_leaves Weak b x = tt

  of_test : (b : Bool) (e : Event Nothing) → Fine (Some e) → Fine (cond b (Some e) None)
  of_test true e p = p
  of_test false e p = tt

  -- each act, where counts of what is in the slots are told as they are to be
  pub chosen : ((i : ℕ) (x : Handle) → slot_pointer w.slots i ≡ Some x → Exact (handle_of now x) → tell now x ≡ exact now x)
      → (a : Act) → Fine (replied tell z d h w a).event
  unfolding replied
  chosen told (Make form) = of_map _ (least d now.stores) (λ b e. e)
  chosen told (Share i) = of_map _ (slot_pointer w.slots i) (λ x e. of_copies x.kind x.place x)
  chosen told (Put i) = of_map _ (slot_pointer w.slots i) (λ x e. of_leaves x.kind _ x)
  chosen told (Leave i) = of_map _ (slot_pointer w.slots i) (λ x e. of_leaves x.kind _ x)
  chosen told (Clear i) = of_map _ (slot_pointer w.slots i) (λ x e. of_leaves x.kind _ x)
  chosen told Drop = of_map _ (slot_pointer w.slots (other w.slots)) (λ x e. of_leaves x.kind _ x)
  chosen told (OnShelf Shelve) = of_map _ (least d now.stores) (λ b e. e)
  chosen told (OnShelf (Unshelve b)) = of_test (now.shelved b.0) (event.Unshelve b) tt
  chosen told (Count i) = of_map _ (slot_pointer w.slots i) (λ x e. told i x e)
  chosen told (Downgrade i) = of_map _ (slot_pointer w.slots i) (λ x e. tt)
  chosen told (Lock i must) = of_map _ (weak_slot (slot_pointer w.slots i)) (λ x e. tt)
  chosen told (Expired i) = of_map _ (slot_pointer w.slots i) (λ x e. tt)
  chosen told (Read i) = of_map _ (inside (slot_pointer w.slots i)) (λ x e. tt)
  chosen told (FromThis i q) = of_map _ (giving now (inside (slot_pointer w.slots i))) (λ x e. of_copies q _ x)
  chosen told (Alias i j field) = of_map _ (owner_slot (slot_pointer w.slots i)) (λ x e. tt)
  chosen told (Move i) = tt
  chosen told (Ask q) = tt
  chosen told (Offer i c) = of_map _ (offered w.slots i c) (λ x e. of_copies x.kind x.place x)
  chosen told (Swap c) = of_test (may_go w.slots c (hand w.slots)) _ tt
  chosen told (Exchange i c) = of_test (may_go w.slots c i) _ tt
  chosen told (Holds i c) = of_test (may_go w.slots c i) _ tt
  chosen told (Load c) = of_test (is_there w.slots c) _ tt
  chosen told (Compare i c weak) = refl
