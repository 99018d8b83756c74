-- An object that ends is in the hands of a desk that isn't joined, and stays there whatever the others do.
use Rattle.std.proofs.Common.{◌≡◌, ℕ, suc, ◌<◌, ◌≤◌, true, false, cond, ◌≢◌, List, [], ◌∷◌, ◌++◌}
use Rattle.std.proofs.Common.{◌==◌, sym, refl, ap, ◌∙◌, subst, inl, inr, ⊎_elim, arith, ne_eqb}
use Rattle.control_word.proofs.Prelude
use Prelude.{after, Asks, ClearMember, common, Compare, cond-false, cond_both, Count, empty}
use Prelude.{ending, Entry, eqb-false, Event, Expired, Finish, Free, gone, handed, IsActing}
use Prelude.{IsLegal, Join, kind_of_member, leads, Leave, live, Load, Lock, Make, Member, moved_to}
use Prelude.{Names, new_object, NoneBy, NumberedHandle, Object, object_of, Opening, Owner, Phase}
use Prelude.{put, Read, renamed, Same, Share, Shelve, Split, State, Swap, unmade, Unshelve, Visit}
use Prelude.{WeakLeave, WeakShare}
use Rattle.control_word.proofs.history.Allowances.{allowed}
use Rattle.control_word.proofs.history.Clearing.{emptied, was_made}
use Rattle.control_word.proofs.history.Given.{legal_seen, names_an_object}
use Rattle.control_word.proofs.history.Kept.{block_kept, has_same, same_kept}
use Rattle.control_word.proofs.history.Legal.{sound, written}
use Rattle.control_word.proofs.history.Moving.{counted_live, owner_counted}
use Rattle.control_word.proofs.history.Soundness.{Sound}
use Rattle.control_word.proofs.lists.Tallies.{put_cases, put_other}
use Rattle.control_word.specs.Laws.{EndsInHands, EndsStill, IsInHands, StaysTheLatest}

ends_same : (d e : ℕ) → ending d ≡ ending e → d ≡ e
ends_same d e q = cc

ends_live : (d : ℕ) → ending d ≡ live → ⊥
ends_live d e = cc

-- the desk is there and isn't joined
abbrev IsFree : State → ℕ → Type 0
IsFree s d = (d < s.names) × (s.joined d ≡ false)

abbrev EndFree : State → Type 0
EndFree s = (o d : ℕ) → (s.object o).phase ≡ ending d → IsFree s d

-- one object changes
put_free : (s : State) (o : ℕ) (x : Object) → EndFree s → ((d : ℕ) → x.phase ≡ ending d → IsFree s d)
    → (q d : ℕ) → (put s.object o x q).phase ≡ ending d → IsFree s d
put_free s o x free here q d =
    put_cases (λ j y. y.phase ≡ ending d → IsFree s d) s.object o x q (λ e. here d) (λ n. free q d)

-- a member of an object changes, and no object's phase
filled : (s : State) (q m : ℕ) (x : NumberedHandle) (o : ℕ)
    → (put s.object q (record (s.object q) { member = put (s.object q).member m x }) o).phase ≡ (s.object o).phase
filled s q m x o =
    put_cases (λ j u. u.phase ≡ (s.object j).phase) s.object q
    (record (s.object q) { member = put (s.object q).member m x }) o
    (λ e. ap (λ n. (s.object n).phase) (sym e)) (λ n. refl)

-- all that the other desk had is another's
join_free : (s : State) (d other : ℕ) → other ≢ d → IsActing s d → EndFree s → (p : Phase)
    → ((e : ℕ) → p ≡ ending e → IsFree s e)
    → (e : ℕ) → handed other d p ≡ ending e → (e < s.names) × (put s.joined other true e ≡ false)
join_free s d other ne acts free unmade was e is = absurd cc
join_free s d other ne acts free live was e is = absurd cc
join_free s d other ne acts free gone was e is = absurd cc
join_free s d other ne acts free (ending x) was e is =
    let there : IsFree s x = was x refl in
    subst (λ j. (j < s.names) × (put s.joined other true j ≡ false)) (ends_same (renamed other d x) e is)
    (cond_both (x == other) d x (λ j. (j < s.names) × (put s.joined other true j ≡ false))
    (λ q. (acts.0, put_other s.joined other true d (λ k. ne (sym k)) ∙ acts.1))
    (λ q. (there.0, put_other s.joined other true x (eqb-false x other q) ∙ there.1)))

module _ {V : Type 0} where
  free_after : (s : State) (d : ℕ) (a : Event V) → Asks s d a → IsActing s d → EndFree s → EndFree (after s d a)
  free_after s d (Make b enabled null fields val) asks acts free =
      put_free s (suc s.made) (new_object s.owners b.0 enabled null fields) free (λ e q. absurd cc)
  free_after s d (Share h p) asks acts free = free
  free_after s d (Leave h true) asks acts free =
      put_free s (object_of h) (moved_to (ending d) (s.object (object_of h))) free
      (λ e q. subst (IsFree s) (ends_same d e q) (acts.0, acts.1))
  free_after s d (Leave h false) asks acts free =
      put_free s (object_of h) (s.object (object_of h)) free (free (object_of h))
  free_after s d (Count h n) asks acts free = free
  free_after s d (Expired h n) asks acts free = free
  free_after s d (Read h n) asks acts free = free
  free_after s d (Same c h so) asks acts free = free
  free_after s d (WeakShare o p) asks acts free = free
  free_after s d (WeakLeave h v) asks acts free = free
  free_after s d (Lock h got) asks acts free = free
  free_after s d (Load c x) asks acts free = free
  free_after s d (Swap (Free c) x y) asks acts free = free
  free_after s d (Swap (Member o m) x y) asks acts free =
      put_free s o (record (s.object o) { member = put (s.object o).member m x }) free (free o)
  free_after s d (Compare (Free c) g x y true w) asks acts free = free
  free_after s d (Compare (Member o m) g x y true w) asks acts free =
      put_free s o (record (s.object o) { member = put (s.object o).member m x }) free (free o)
  free_after s d (Compare c g x y false w) asks acts free = free
  free_after s d (ClearMember o m h) asks acts free = put_free s o (emptied s.owners (s.object o) m) free (free o)
  free_after s d (Finish o v val) asks acts free = put_free s o (moved_to gone (s.object o)) free (λ e q. absurd cc)
  free_after s d (Visit h x y) asks acts free = free
  free_after s d (Split to n hs bs) asks acts free = λ o e q. let t = free o e q in let u = t.0 in (omega arith, t.1)
  free_after s d (Join other) asks acts free = λ o. join_free s d other asks.0 acts free (s.object o).phase (free o)
  free_after s d (Shelve b) asks acts free = free
  free_after s d (Unshelve b) asks acts free = free

  end_free : (z : Opening) (h : List (Entry V)) → IsLegal z h → EndFree (leads z h)
  end_free z [] legal = λ o d e. absurd cc
  end_free z (e ∷ h) legal = free_after (leads z h) e.desk e.event legal.1.asks legal.1.acting (end_free z h legal.0)

  pub ends_in_hands : EndsInHands V
  ends_in_hands z h legal o d ends =
      let s = leads z h in
      let fine = sound z h legal in
      let free = end_free z h legal o d ends in
      let one : common (s.object o).phase ≡ 1 = ap common ends in
      let place = fine.placed o (omega arith) in
      let made = was_made z s o fine (λ u. cc) in
      let some' : o ≢ 0 = λ e.
      let none : common (s.object o).phase ≡ 0 = ap (λ i. common (s.object i).phase) e ∙ ap common fine.none in
      omega arith in
      ((free.0, free.1, (allowed z h legal).acts d free.0 free.1), omega arith, omega arith, place.0, place.1)

  -- an event of another desk leaves the object ending
  still_after : (z : Opening) (s : State) (e d o : ℕ) (a : Event V) → Sound z s → Asks s e a → e ≢ d → (Names a d → ⊥)
      → (s.object o).phase ≡ ending d → ((after s e a).object o).phase ≡ ending d
  still_after z s e d o (Make b enabled null fields val) fine asks n m ends =
      ap (λ (x : Object). x.phase) (put_other s.object (suc s.made) (new_object s.owners b.0 enabled null fields) o
      (λ q. let fresh = fine.fresh (suc s.made) (omega arith) in let is = ap (λ i. (s.object i).phase) q in absurd cc))
      ∙ ends
  still_after z s e d o (Share h p) fine asks n m ends = ends
  still_after z s e d o (Leave h last) fine asks n m ends =
      let holds = asks.0 in
      let alive = counted_live z s (object_of h) fine
      (owner_counted s e (object_of h) h.place (written s.hands e Owner h holds.0 holds.1 holds.2)) in
      let x = s.object (object_of h) in
      ap (λ (x : Object). x.phase) (put_other s.object (object_of h) (cond last (moved_to (ending e) x) x) o
      (λ q. ends_live d (sym ends ∙ (ap (λ i. (s.object i).phase) q ∙ alive)))) ∙ ends
  still_after z s e d o (Count h c) fine asks n m ends = ends
  still_after z s e d o (Expired h c) fine asks n m ends = ends
  still_after z s e d o (Read h c) fine asks n m ends = ends
  still_after z s e d o (Same c h so) fine asks n m ends = ends
  still_after z s e d o (WeakShare q p) fine asks n m ends = ends
  still_after z s e d o (WeakLeave h c) fine asks n m ends = ends
  still_after z s e d o (Lock h c) fine asks n m ends = ends
  still_after z s e d o (Load c x) fine asks n m ends = ends
  still_after z s e d o (Swap (Free c) x y) fine asks n m ends = ends
  still_after z s e d o (Swap (Member q c) x y) fine asks n m ends = filled s q c x o ∙ ends
  still_after z s e d o (Compare (Free c) g x y true w) fine asks n m ends = ends
  still_after z s e d o (Compare (Member q c) g x y true w) fine asks n m ends = filled s q c x o ∙ ends
  still_after z s e d o (Compare c g x y false w) fine asks n m ends = ends
  still_after z s e d o (ClearMember q c h) fine asks n m ends = filled s q c (empty (kind_of_member s.owners c)) o ∙ ends
  still_after z s e d o (Finish q c val) fine asks n m ends =
      ap (λ (x : Object). x.phase) (put_other s.object q (moved_to gone (s.object q)) o
      (λ i. n (ends_same e d (sym asks.0 ∙ (ap (λ j. (s.object j).phase) (sym i) ∙ ends))))) ∙ ends
  still_after z s e d o (Visit h c val) fine asks n m ends = ends
  still_after z s e d o (Split to amount hs bs) fine asks n m ends = ends
  still_after z s e d o (Join other) fine asks n m ends =
      ap (handed other e) ends ∙ ap ending (cond-false (d == other) e d (ne_eqb d other (λ q. m (sym q))))
  still_after z s e d o (Shelve b) fine asks n m ends = ends
  still_after z s e d o (Unshelve b) fine asks n m ends = ends

  pub ends_still : EndsStill V
  ends_still z [] seen legal d none o ends = ends
  ends_still z (e ∷ later) seen legal d none o ends =
      still_after z (leads z (later ++ seen)) e.desk d o e.event (sound z (later ++ seen) legal.0) legal.1.asks
      none.0 none.1
      (ends_still z later seen legal.0 d none.2 o ends)

  -- an object in a desk's hands is the latest in its block
  latest_here : (z : Opening) (h : List (Entry V)) → IsLegal z h → (d o : ℕ) → IsInHands (leads z h) d o
      → (o ≤ (leads z h).made) × ((leads z h).latest ((leads z h).object o).block ≡ o)
  latest_here z h legal d o hands =
      let s = leads z h in
      ⊎_elim
      (λ t. let law = names_an_object z h legal d t.0 t.1 t.2 in
      subst (λ i. (i ≤ s.made) × (s.latest (s.object i).block ≡ i)) t.3 (law.1, law.2))
      (λ ends. let law = ends_in_hands z h legal o d ends in (law.2, law.3))
      hands

  in_hands_still : (z : Opening) (later seen : List (Entry V)) → IsLegal z (later ++ seen) → (d : ℕ) → NoneBy d later
      → (o : ℕ) → IsInHands (leads z seen) d o → IsInHands (leads z (later ++ seen)) d o
  in_hands_still z later seen legal d none o hands =
      let same = same_kept z later seen d none in
      ⊎_elim
      (λ t. let holds = t.2 in
      inl (t.0, t.1, (has_same (leads z seen) (leads z (later ++ seen)) d t.1 same holds.0, holds.1, holds.2), t.3))
      (λ ends. inr (ends_still z later seen legal d none o ends))
      hands

  pub stays_the_latest : StaysTheLatest V
  stays_the_latest z later seen legal d none o hands =
      let was = latest_here z seen (legal_seen z later seen legal) d o hands in
      let is = latest_here z (later ++ seen) legal d o (in_hands_still z later seen legal d none o hands) in
      (was.1, ap (leads z (later ++ seen)).latest (sym (block_kept z later seen o was.0).0) ∙ is.1)
