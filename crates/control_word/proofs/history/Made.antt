-- Objects that were made stay made, and each one's value comes out once.
use Rattle.std.proofs.Common.{◌≡◌, ℕ, suc, ◌<◌, ◌≤◌, true, false, ◌≢◌, ◌⊎◌, ◌↔◌, List, [], ◌∷◌}
use Rattle.std.proofs.Common.{sym, refl, ap, subst, inl, inr, ⊎_elim, arith}
use Rattle.control_word.proofs.Prelude
use Prelude.{after, cases_eq, ClearMember, Compare, Count, ending, Entry, Event, Expired, Finish}
use Prelude.{Free, gone, handed, Join, leads, Leave, live, Load, Lock, Make, Member, moved_to}
use Prelude.{new_object, Object, object_of, Opening, Phase, put, Read, Same, Share, Shelve, Split}
use Prelude.{State, Swap, unmade, Unshelve, Visit, WeakLeave, WeakShare}
use Rattle.control_word.proofs.history.Clearing.{emptied}
use Rattle.control_word.proofs.history.Given.{given_over, over}
use Rattle.control_word.proofs.lists.Tallies.{put_cases, put_same}
use Rattle.control_word.specs.Laws.{GivesOnce}

-- an object that was made stays so
abbrev is_made : Phase → ℕ
is_made unmade = 0
is_made live = 1
is_made gone = 1
is_made (ending d) = 1

made_put : (s : State) (o q : ℕ) (x : Object) → (q ≡ o → 0 < is_made x.phase) → 0 < is_made (s.object q).phase
    → 0 < is_made (put s.object o x q).phase
made_put s o q x here was = put_cases (λ j y. j ≡ q → 0 < is_made y.phase) s.object o x q (λ e u. here e) (λ n u. was) refl

made_handed : (e d : ℕ) (p : Phase) → is_made (handed e d p) ≡ is_made p
made_handed e d unmade = refl
made_handed e d live = refl
made_handed e d gone = refl
made_handed e d (ending x) = refl

module _ {V : Type 0} where
  made_after : (s : State) (d : ℕ) (a : Event V) (q : ℕ) → 0 < is_made (s.object q).phase → 0 < is_made ((after s d a).object q).phase
  made_after s d (Make b enabled null fields val) q m = made_put s (suc s.made) q (new_object s.owners b.0 enabled null fields) (λ e. omega arith) m
  made_after s d (Share h p) q m = m
  made_after s d (Leave h true) q m = made_put s (object_of h) q (moved_to (ending d) (s.object (object_of h))) (λ e. omega arith) m
  made_after s d (Leave h false) q m = made_put s (object_of h) q (s.object (object_of h)) (λ e. let t = ap
      (λ n. is_made (s.object n).phase) e in omega arith) m
  made_after s d (Count h n) q m = m
  made_after s d (Expired h x) q m = m
  made_after s d (Read h n) q m = m
  made_after s d (Same c h so) q m = m
  made_after s d (WeakShare o p) q m = m
  made_after s d (WeakLeave h x) q m = m
  made_after s d (Lock h x) q m = m
  made_after s d (ClearMember o n h) q m =
      made_put s o q (emptied s.owners (s.object o) n) (λ e. let t = ap (λ n. is_made (s.object n).phase) e in omega arith) m
  made_after s d (Finish o x val) q m = made_put s o q (moved_to gone (s.object o)) (λ e. omega arith) m
  made_after s d (Load c x) q m = m
  made_after s d (Swap (Free c) x y) q m = m
  made_after s d (Swap (Member o n) x y) q m = made_put s o q (record (s.object o) { member = put (s.object o).member n x }) (λ e. let t = ap
      (λ n. is_made (s.object n).phase) e in omega arith) m
  made_after s d (Compare (Free c) e x y true w) q m = m
  made_after s d (Compare (Member o n) e x y true w) q m = made_put s o q (record (s.object o) { member = put (s.object o).member n x })
      (λ e. let t = ap (λ n. is_made (s.object n).phase) e in omega arith) m
  made_after s d (Compare c e x y false w) q m = m
  made_after s d (Visit h x y) q m = m
  made_after s d (Split e amount x y) q m = m
  made_after s d (Join e) q m = let t = made_handed e d (s.object q).phase in omega arith
  made_after s d (Shelve b) q m = m
  made_after s d (Unshelve b) q m = m

  made_grows : (s : State) (d : ℕ) (a : Event V)
      → ((after s d a).made ≡ s.made) ⊎ (((after s d a).made ≡ suc s.made) × (0 < is_made ((after s d a).object (suc s.made)).phase))
  made_grows s d (Make b enabled null fields val) = inr (
    refl,
    let x = new_object s.owners b.0 enabled null fields in subst
        (λ (y : Object). 0 < is_made y.phase) (sym (put_same s.object (suc s.made) x (suc s.made) refl)) (omega arith),
  )
  made_grows s d (Share h p) = inl refl
  made_grows s d (Leave h last) = inl refl
  made_grows s d (Count h n) = inl refl
  made_grows s d (Expired h x) = inl refl
  made_grows s d (Read h n) = inl refl
  made_grows s d (Same c h so) = inl refl
  made_grows s d (WeakShare o p) = inl refl
  made_grows s d (WeakLeave h x) = inl refl
  made_grows s d (Lock h x) = inl refl
  made_grows s d (ClearMember o n h) = inl refl
  made_grows s d (Finish o x val) = inl refl
  made_grows s d (Load c x) = inl refl
  made_grows s d (Swap (Free c) x y) = inl refl
  made_grows s d (Swap (Member o n) x y) = inl refl
  made_grows s d (Compare (Free c) e x y true w) = inl refl
  made_grows s d (Compare (Member o n) e x y true w) = inl refl
  made_grows s d (Compare c e x y false w) = inl refl
  made_grows s d (Visit h x y) = inl refl
  made_grows s d (Split e amount x y) = inl refl
  made_grows s d (Join e) = inl refl
  made_grows s d (Shelve b) = inl refl
  made_grows s d (Unshelve b) = inl refl

  -- each object up to the last Make was made
  all_made : (z : Opening) (h : List (Entry V)) (o : ℕ) → 1 ≤ o → o ≤ (leads z h).made → 0 < is_made ((leads z h).object o).phase
  all_made z [] o lo hi = absurd (omega arith)
  all_made z (e ∷ h) o lo hi =
      let s = leads z h in
      ⊎_elim (λ same. made_after s e.desk e.event o (all_made z h o lo (omega arith)))
      (λ t. ⊎_elim (λ (q : o ≡ suc s.made). subst (λ n. 0 < is_made ((after s e.desk e.event).object n).phase) (sym q) t.1)
      (λ (ne : o ≢ suc s.made). made_after s e.desk e.event o (all_made z h o lo (let u = t.0 in omega arith))) (cases_eq o (suc s.made)))
      (made_grows s e.desk e.event)

over_live : (p : Phase) → 0 < is_made p → (over p ≤ 1) × (over p ≡ 1 ↔ p ≢ live)
over_live unmade m = absurd (omega arith)
over_live live m = (omega arith, ((λ e. absurd (omega arith)), λ n. absurd (n refl)))
over_live gone m = (omega arith, ((λ e u. cc), λ n. refl))
over_live (ending d) m = (omega arith, ((λ e u. cc), λ n. refl))

module _ {V : Type 0} where
  pub gives_once : GivesOnce V
  gives_once z h legal o lo hi =
      let p = ((leads z h).object o).phase in
      subst (λ n. (n ≤ 1) × (n ≡ 1 ↔ p ≢ live)) (sym (given_over z h legal o)) (over_live p (all_made z h o lo hi))
