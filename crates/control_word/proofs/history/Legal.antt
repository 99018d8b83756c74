-- Every state that a legal history leads to is sound.
use Rattle.std.proofs.Common.{◌≡◌, ℕ, zero, suc, ◌<◌, ◌≤◌, true, false, ◌≢◌, List, [], ◌∷◌, length}
use Rattle.std.proofs.Common.{◌==◌, Some, Option, sym, refl, ap, ◌∙◌, subst, ⊎_elim, arith}
use Rattle.std.proofs.Common.{eqb-true}
use Rattle.control_word.proofs.Prelude
use Prelude.{after, all_stored, Asks, ClearMember, clears, common, Compare, cond_both, Count}
use Prelude.{empty, Entry, eqb-false, Event, Expired, filter, Finish, gets, handle, handles, Has}
use Prelude.{Held, held, how_often, IsLegal, Join, Kind, kind_of_free, leads, Leave, leaves, Load}
use Prelude.{Lock, Make, members, nobody, NumberedHandle, object_of, Opening, Owner, Place, Read}
use Prelude.{Same, Share, Shelve, Split, start, State, Stored, stored, Swap, swaps, tally}
use Prelude.{Unshelve, upto, Visit, Weak, weak_leaves, WeakLeave, WeakShare}
use Rattle.std.proofs.lemmas.Bool.{not-true}
use Rattle.control_word.proofs.history.Cells.{sound_load, sound_swap}
use Rattle.control_word.proofs.history.Clearing.{sound_clear}
use Rattle.control_word.proofs.history.Leaving.{sound_finish, sound_leave, sound_weak_leave}
use Rattle.control_word.proofs.history.Making.{empty_counts, empty_members, sound_make}
use Rattle.control_word.proofs.history.Moving.{counted_live, live_busy, owner_counted, sound_owner}
use Rattle.control_word.proofs.history.Moving.{sound_weak, weak_counted}
use Rattle.control_word.proofs.history.Passing.{sound_join, sound_split}
use Rattle.control_word.proofs.history.Shelving.{sound_shelved, sound_unshelved}
use Rattle.control_word.proofs.history.Soundness.{IsBusy, Sound}
use Rattle.control_word.proofs.lists.Tallies.{tally_append, tally_upto_empty}
use Rattle.control_word.specs.State.{count, weak}
use Rattle.control_word.specs.Limits.{most_members}

-- a handle that is held, written out
pub written : (l : List Held) (d : ℕ) (k : Kind) (h : NumberedHandle) → Has (held d h) l → h.kind ≡ k → h.object ≡ Some (object_of h)
    → Has (held d (handle k (Some (object_of h)) h.place)) l
written l d k h has kind object =
    subst (λ n. Has (held d (handle k n h.place)) l) object (subst (λ j. Has (held d (handle j h.object h.place)) l) kind has)

-- the object of a handle that is held is busy
pub held_busy : (z : Opening) (s : State) (d o : ℕ) (k : Kind) (p : Option Place) → Sound z s → Has (held d (handle k (Some o) p)) s.hands → IsBusy s o
held_busy z s d o Owner p sound h = live_busy s o (counted_live z s o sound (owner_counted s d o p h))
held_busy z s d o Weak p sound h = let t = weak_counted s d o p h in omega arith

-- an event on a handle may be read with the handle written out
rebuilt : (P : NumberedHandle → Type 0) (k : Kind) (h : NumberedHandle) → h.kind ≡ k → h.object ≡ Some (object_of h)
    → P (handle k (Some (object_of h)) h.place) → P h
rebuilt P k h kind object p = subst (λ j. P (handle j h.object h.place)) (sym kind) (subst (λ n. P (handle k n h.place)) (sym object) p)

module _ {V : Type 0} where
  pub sound_after : (z : Opening) (s : State) (d : ℕ) (a : Event V) → Sound z s → Asks s d a → Sound z (after s d a)
  sound_after z s d (Make b enabled null fields val) sound asks = sound_make z s d b.0 enabled null fields sound asks.0
  sound_after z s d (Share h p) sound asks =
      let hold = asks.0 in
      let alive = counted_live z s (object_of h) sound (owner_counted s d (object_of h) h.place (written s.hands d Owner h hold.0 hold.1 hold.2)) in
      subst (λ (n : Option ℕ). Sound z (record s { hands = held d (handle Owner n p) ∷ s.hands })) (sym hold.2)
      (sound_owner z s d (object_of h) p sound alive)
  sound_after z s d (Leave h last) sound asks =
      let hold = asks.0 in
      rebuilt (λ u. Sound z (leaves d u last s)) Owner h hold.1 hold.2 (sound_leave z s d (object_of h) h.place last sound
      (written s.hands d Owner h hold.0 hold.1 hold.2) asks.1)
  sound_after z s d (Count h n) sound asks = sound
  sound_after z s d (Expired h expired) sound asks = sound
  sound_after z s d (Read h field) sound asks = sound
  sound_after z s d (Same c h so) sound asks = sound
  sound_after z s d (WeakShare o p) sound asks =
      sound_weak z s d o p sound
      (⊎_elim
      (λ t.
      let h = t.0 in let hold = t.1 in
      let b = held_busy z s d (object_of h) h.kind h.place sound (written s.hands d h.kind h hold.0 hold.1 hold.2) in
      let e : Some (object_of h) ≡ Some o = sym hold.2 ∙ t.2 in
      let e2 : object_of h ≡ o = cc in
      subst (IsBusy s) e2 b)
      (λ t. let c : common (s.object o).phase ≡ 1 = ap common t.0 in omega arith) asks)
  sound_after z s d (WeakLeave h vacant) sound asks =
      let hold = asks.0 in
      rebuilt (λ u. Sound z (weak_leaves d u vacant s)) Weak h hold.1 hold.2 (sound_weak_leave z s d (object_of h) h.place vacant sound
      (written s.hands d Weak h hold.0 hold.1 hold.2) asks.1)
  sound_after z s d (Lock h got) sound asks =
      cond_both got (held d (handle Owner h.object h.place) ∷ s.hands) s.hands (λ l. Sound z (record s { hands = l }))
      (λ e.
      let some' : count s (object_of h) ≢ 0 = eqb-false (count s (object_of h)) 0 (not-true _ (sym asks.1 ∙ e)) in
      let alive = counted_live z s (object_of h) sound (omega arith) in
      subst (λ (n : Option ℕ). Sound z (record s { hands = held d (handle Owner n h.place) ∷ s.hands })) (sym (asks.0.2)) (sound_owner z s d
      (object_of h) h.place sound alive))
      (λ e. sound)
  sound_after z s d (ClearMember o m h) sound asks = subst (λ u. Sound z (clears d o m u s)) (sym asks.2) (sound_clear z s d o m sound asks.0
      (let t = asks.1 in let u = sound.few in omega arith))
  sound_after z s d (Finish o vacant val) sound asks = sound_finish z s d o vacant sound asks.0 asks.1 asks.2
  sound_after z s d (Load c got) sound asks = subst (λ u. Sound z (gets d u s)) (sym asks.1) (sound_load z s d c sound asks.0)
  sound_after z s d (Swap c new old) sound asks = subst (λ u. Sound z (swaps d c new u s)) (sym asks.2) (sound_swap z s d c new sound asks.0 asks.1)
  sound_after z s d (Compare c expected new h true weak) sound asks = subst
      (λ u. Sound z (swaps d c new u s)) (sym asks.3) (sound_swap z s d c new sound asks.0 asks.2)
  sound_after z s d (Compare c expected new h false weak) sound asks = subst (λ u. Sound z (gets d u s)) (sym asks.3) (sound_load z s d c sound asks.0)
  sound_after z s d (Visit h was becomes) sound asks = sound
  sound_after z s d (Split to amount hs bs) sound asks = sound_split z s d to amount hs bs sound asks.4 asks.5
  sound_after z s d (Join other) sound asks = sound_join z s d other sound
  sound_after z s d (Shelve b) sound asks = sound_shelved z s d b.0 sound asks
  sound_after z s d (Unshelve b) sound asks = sound_unshelved z s d b.0 sound asks

in_range : (f : ℕ → ℕ) (n d b : ℕ) → Has (stored d b) (all_stored f n) → (1 ≤ b) × (b ≤ n)
in_range f zero d b h = absurd h
in_range f (suc n) d b h =
    ⊎_elim (λ e. let t : b ≡ suc n = ap (λ (u : Stored). u.block) e in omega arith) (λ t. let u = in_range f n d b t in omega arith) h

stored_once : (f : ℕ → ℕ) (n b : ℕ) → (how_often b (all_stored f n) ≤ 1) × (n < b → how_often b (all_stored f n) ≡ 0)
stored_once f zero b = (omega arith, λ lt. refl)
stored_once f (suc n) b =
    let ih = stored_once f n b in
    cond_both (suc n == b) (stored (f (suc n)) (suc n) ∷ filter (λ x. x.block == b) (all_stored f n)) (filter (λ x. x.block == b) (all_stored f n))
    (λ l. (length l ≤ 1) × (suc n < b → length l ≡ 0))
    (λ e. let t = eqb-true (suc n) b e in let u : how_often b (all_stored f n) ≡ 0 = ih.1 (omega arith) in (omega arith, λ lt. absurd (omega arith)))
    (λ e. (ih.0, λ lt. ih.1 (omega arith)))

pub nothing : (k : Kind) (z : Opening) (q : ℕ) → tally k q (handles (start z)) ≡ 0
nothing k z q =
    let cells = upto z.cells (λ c. empty (kind_of_free z.shared_cells c) ∷ []) in
    let rest = upto 1 (λ o. members (nobody z.owners)) in
    let a = tally_upto_empty k q z.cells (λ c. empty (kind_of_free z.shared_cells c) ∷ []) (λ i lt. empty_counts k (kind_of_free z.shared_cells i) q []) in
    let b : tally k q (members (nobody z.owners)) ≡ 0 = empty_members z.owners k q in
    let c = tally_upto_empty k q 1 (λ o. members (nobody z.owners)) (λ i lt. b) in
    omega (arith, tally_append k q cells rest)

no_owner : (z : Opening) (q : ℕ) → count (start z) q ≡ 0
unfolding count
no_owner z q = nothing Owner z q

no_weak : (z : Opening) (q : ℕ) → weak (start z) q ≡ 0
unfolding weak
no_weak z q = nothing Weak z q

pub sound_start : (z : Opening) → z.members ≤ most_members → Sound z (start z)
sound_start z few = record {
  owners = no_owner z;
  unmade_free = λ o e. let t = no_weak z o in omega arith;
  fresh = λ o lt. refl;
  none = refl;
  placed = λ o busy. let t = no_weak z o in absurd (omega arith);
  latest_made = λ b. omega arith;
  latest_in = λ b n. absurd (n refl);
  stores = λ d b h. ((λ o e. let t = no_weak z o in omega arith), in_range z.holder z.blocks d b h);
  shelf = λ b e. absurd cc;
  once = λ b. let t = (stored_once z.holder z.blocks b).0 in omega arith;
  cleared = λ o m lt e. refl;
  few = few;
  unused = λ o m le. refl;
}

module _ {V : Type 0} where
  pub sound : (z : Opening) (h : List (Entry V)) → IsLegal z h → Sound z (leads z h)
  sound z [] legal = sound_start z legal.members.1
  sound z (e ∷ h) legal = sound_after z (leads z h) e.desk e.event (sound z h legal.0) legal.1.asks
