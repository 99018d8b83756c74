-- A vacant block is in just one store or on the shelf, and no other block is in any.
use Rattle.std.proofs.Common.{◌≡◌, ℕ, zero, suc, ◌<◌, ◌≤◌, true, false, ◌≢◌, List, [], ◌∷◌, sym}
use Rattle.std.proofs.Common.{ap, subst, ⊎_elim, arith}
use Rattle.control_word.proofs.Prelude.{after, all_stored, Asks, cases_eq, ClearMember, clears}
use Rattle.control_word.proofs.Prelude.{Compare, cond_both, Count, Entry, Event, Expired, Finish}
use Rattle.control_word.proofs.Prelude.{handle, held, how_often, IsLegal, Join, leads, Leave}
use Rattle.control_word.proofs.Prelude.{leaves, Load, Lock, Make, object_of, Opening, Owner, Read}
use Rattle.control_word.proofs.Prelude.{Same, Share, Shelve, Split, State, Swap, swaps, times_kept}
use Rattle.control_word.proofs.Prelude.{Unshelve, Visit, Weak, weak_leaves, WeakLeave, WeakShare}
use Rattle.control_word.proofs.history.Cells.{open_in}
use Rattle.control_word.proofs.history.Clearing.{was_made}
use Rattle.control_word.proofs.history.Keeping.{Kept, kept_clear, kept_finish, kept_hands}
use Rattle.control_word.proofs.history.Keeping.{kept_join, kept_leave, kept_load, kept_make}
use Rattle.control_word.proofs.history.Keeping.{kept_split, kept_swap, kept_weak_leave}
use Rattle.control_word.proofs.history.Keeping.{stored_else, stored_here, written_out}
use Rattle.control_word.proofs.history.Legal.{sound, written}
use Rattle.control_word.proofs.history.Moving.{more_weaks, owner_no_weak}
use Rattle.control_word.proofs.history.Shelving.{kept_shelved, kept_unshelved}
use Rattle.control_word.proofs.history.Soundness.{Sound, kept_vacant}
use Rattle.control_word.specs.Laws.{StoredOnce}

all_kept : (f : ℕ → ℕ) (n b : ℕ) → 1 ≤ b → b ≤ n → 0 < how_often b (all_stored f n)
all_kept f zero b low high = absurd (omega arith)
all_kept f (suc n) b low high =
    ⊎_elim
    (λ (e : b ≡ suc n).
    let t = stored_here (f (suc n)) (suc n) (all_stored f n) in
    let u = ap (λ m. how_often m (all_stored f (suc n))) e in omega arith)
    (λ (ne : b ≢ suc n).
    let t = stored_else (f (suc n)) (suc n) b (all_stored f n) ne in
    let u = all_kept f n b low (omega arith) in omega arith)
    (cases_eq b (suc n))

module _ {V : Type 0} where
  kept_after : (z : Opening) (s : State) (d : ℕ) (a : Event V) → Sound z s → Kept z s → Asks s d a
      → Kept z (after s d a)
  kept_after z s d (Make b enabled null fields val) fine kept asks =
      kept_make z s d b.0 enabled null fields fine kept asks.0
  kept_after z s d (Share h p) fine kept asks =
      kept_hands z s _ kept (λ q. let t = owner_no_weak s d h.object p q in omega arith)
  kept_after z s d (Leave h last) fine kept asks =
      let hold = asks.0 in
      subst (λ u. Kept z (leaves d u last s)) (sym (written_out h Owner hold.1 hold.2))
      (kept_leave z s d (object_of h) h.place last fine kept (written s.hands d Owner h hold.0 hold.1 hold.2))
  kept_after z s d (Count h n) fine kept asks = kept
  kept_after z s d (Expired h x) fine kept asks = kept
  kept_after z s d (Read h n) fine kept asks = kept
  kept_after z s d (Same c h so) fine kept asks = kept
  kept_after z s d (WeakShare o p) fine kept asks =
      kept_hands z s _ kept
      (λ q. ⊎_elim (λ e. let t = (more_weaks s d o p q).0 e in omega arith)
      (λ ne. let t = (more_weaks s d o p q).1 ne in omega arith) (cases_eq q o))
  kept_after z s d (WeakLeave h vacant) fine kept asks =
      let hold = asks.0 in
      subst (λ u. Kept z (weak_leaves d u vacant s)) (sym (written_out h Weak hold.1 hold.2))
      (kept_weak_leave z s d (object_of h) h.place vacant fine kept
      (written s.hands d Weak h hold.0 hold.1 hold.2) asks.1)
  kept_after z s d (Lock h x) fine kept asks =
      cond_both x (held d (handle Owner h.object h.place) ∷ s.hands) s.hands
      (λ l. Kept z (record s { hands = l }))
      (λ e. kept_hands z s _ kept (λ q. let t = owner_no_weak s d h.object h.place q in omega arith))
      (λ e. kept)
  kept_after z s d (ClearMember o m h) fine kept asks =
      let made = was_made z s o fine (λ u. cc) in
      subst (λ u. Kept z (clears d o m u s)) (sym asks.2) (kept_clear z s d o m kept
      (let t = asks.1 in let u = fine.few in omega arith) made)
  kept_after z s d (Finish o vacant val) fine kept asks = kept_finish z s d o vacant kept asks.2
  kept_after z s d (Load c x) fine kept asks = kept_load z s d x kept
  kept_after z s d (Swap c x y) fine kept asks =
      subst (λ u. Kept z (swaps d c x u s)) (sym asks.2)
      (kept_swap z s d c x kept (open_in z s d c fine asks.0) asks.1)
  kept_after z s d (Compare c e x y true w) fine kept asks =
      subst (λ u. Kept z (swaps d c x u s)) (sym asks.3)
      (kept_swap z s d c x kept (open_in z s d c fine asks.0) asks.2)
  kept_after z s d (Compare c e x y false w) fine kept asks = kept_load z s d y kept
  kept_after z s d (Visit h x y) fine kept asks = kept
  kept_after z s d (Split to n hs bs) fine kept asks = kept_split z s d to n hs bs kept asks.4 asks.5
  kept_after z s d (Join other) fine kept asks = kept_join z s d other kept
  kept_after z s d (Shelve b) fine kept asks = kept_shelved z s d b.0 fine kept asks
  kept_after z s d (Unshelve b) fine kept asks = kept_unshelved z s d b.0 kept asks

  pub kept : (z : Opening) (h : List (Entry V)) → IsLegal z h → Kept z (leads z h)
  kept z [] legal = λ b shape vacant. let t = all_kept z.holder z.blocks b shape.0 shape.1 in omega arith
  kept z (e ∷ h) legal =
      kept_after z (leads z h) e.desk e.event (sound z h legal.0) (kept z h legal.0) legal.1.asks

  pub stored_once : StoredOnce V
  stored_once z h legal b shape =
      let s = leads z h in
      let fine = sound z h legal in
      let once = fine.once b in
      let there = λ (e : times_kept s b ≡ 1). (kept_vacant z s fine b (omega arith)).0 in
      ((there, λ vacant. let t = kept z h legal b shape vacant in omega arith), once)
