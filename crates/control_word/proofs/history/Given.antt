-- An object's last owner leaves once, and what is held names an object.
use Rattle.std.proofs.Common.{◌≡◌, ℕ, suc, ◌+◌, ◌<◌, ◌≤◌, true, false, cond, ◌≢◌, List, [], ◌∷◌}
use Rattle.std.proofs.Common.{◌++◌, ◌==◌, sym, refl, ap, ◌∙◌, arith, eq-eqb, ne_eqb}
use Rattle.control_word.proofs.Prelude
use Prelude.{after, Asks, ClearMember, Compare, cond-false, cond-true, Count, ending, Entry, Event}
use Prelude.{Expired, Finish, Free, gone, handed, IsLegal, Join, leads, Leave, live, Load, Lock}
use Prelude.{Make, Member, moved_to, new_object, Object, object_of, Opening, Owner, Phase, put}
use Prelude.{Read, Same, Share, Shelve, Split, State, Swap, unmade, Unshelve, Visit, Weak}
use Prelude.{weak_number, WeakLeave, WeakShare}
use Rattle.control_word.proofs.history.Clearing.{emptied, was_made}
use Rattle.control_word.proofs.history.Legal.{held_busy, sound, written}
use Rattle.control_word.proofs.history.Moving.{counted_live, owner_counted}
use Rattle.control_word.proofs.history.Soundness.{OwnersFit, Sound}
use Rattle.control_word.proofs.lists.Tallies.{put_cases}
use Rattle.control_word.specs.Histories.{ends_by, given}
use Rattle.control_word.specs.Laws.{LiveWhileOwned, NamesAnObject, StaysExpired}
use Rattle.control_word.specs.State.{count}

-- the object's last owner has left
abbrev pub over : Phase → ℕ
over unmade = 0
over live = 0
over gone = 1
over (ending d) = 1

over_put : (s : State) (o q : ℕ) (x : Object) (n : ℕ) → (q ≡ o → over x.phase ≡ n + over (s.object o).phase) → (q ≢ o → n ≡ 0)
    → over (put s.object o x q).phase ≡ n + over (s.object q).phase
over_put s o q x n here else =
    put_cases (λ j y. j ≡ q
    → over y.phase ≡ n + over (s.object j).phase) s.object o x q (λ e e2. here e
    ∙ ap (λ m. n + over (s.object m).phase) (sym e)) (λ ne e2. let t = else ne in omega arith) refl

handed_over : (e d : ℕ) (p : Phase) → over (handed e d p) ≡ over p
handed_over e d unmade = refl
handed_over e d live = refl
handed_over e d gone = refl
handed_over e d (ending x) = refl

module _ {V : Type 0} where
  over_after : (z : Opening) (s : State) (d : ℕ) (a : Event V) → Sound z s → Asks s d a → (q : ℕ)
      → over ((after s d a).object q).phase ≡ ends_by q a + over (s.object q).phase
  over_after z s d (Make b enabled null fields val) sound asks q =
      over_put s (suc s.made) q (new_object s.owners b.0 enabled null fields) 0
      (λ e. let t : over (s.object (suc s.made)).phase ≡ 0 = ap over (sound.fresh (suc s.made) (omega arith)) in omega arith) (λ n. refl)
  over_after z s d (Share h p) sound asks q = omega arith
  over_after z s d (Leave h true) sound asks q =
      let o = object_of h in
      let alive = counted_live z s o sound (owner_counted s d o h.place (written s.hands d Owner h asks.0.0 asks.0.1 asks.0.2)) in
      over_put s o q (moved_to (ending d) (s.object o)) (cond (o == q) 1 0)
      (λ e. let t : over (s.object o).phase ≡ 0 = ap over alive in
      let u : ◌≡◌ {A = ℕ} (cond (o == q) 1 0) 1 = cond-true _ 1 0 (eq-eqb o q (sym e)) in omega arith)
      (λ n. cond-false _ 1 0 (ne_eqb o q (λ e. n (sym e))))
  over_after z s d (Leave h false) sound asks q = over_put s (object_of h) q (s.object (object_of h)) 0 (λ e. omega arith) (λ n. refl)
  over_after z s d (Count h n) sound asks q = omega arith
  over_after z s d (Expired h x) sound asks q = omega arith
  over_after z s d (Read h n) sound asks q = omega arith
  over_after z s d (Same c h so) sound asks q = omega arith
  over_after z s d (WeakShare o p) sound asks q = omega arith
  over_after z s d (WeakLeave h x) sound asks q = omega arith
  over_after z s d (Lock h x) sound asks q = omega arith
  over_after z s d (ClearMember o m h) sound asks q = over_put s o q (emptied s.owners (s.object o) m) 0 (λ e. omega arith) (λ n. refl)
  over_after z s d (Finish o x val) sound asks q =
      over_put s o q (moved_to gone (s.object o)) 0 (λ e. let t : over (s.object o).phase ≡ 1 = ap over asks.0 in omega arith) (λ n. refl)
  over_after z s d (Load c x) sound asks q = omega arith
  over_after z s d (Swap (Free c) x y) sound asks q = omega arith
  over_after z s d (Swap (Member o m) x y) sound asks q = over_put s o q (record (s.object o) { member = put (s.object o).member m x }) 0
      (λ e. omega arith) (λ n. refl)
  over_after z s d (Compare (Free c) e x y true w) sound asks q = omega arith
  over_after z s d (Compare (Member o m) e x y true w) sound asks q = over_put s o q (record (s.object o) { member = put (s.object o).member m x }) 0
      (λ e. omega arith) (λ n. refl)
  over_after z s d (Compare c e x y false w) sound asks q = omega arith
  over_after z s d (Visit h x y) sound asks q = omega arith
  over_after z s d (Split e amount x y) sound asks q = omega arith
  over_after z s d (Join e) sound asks q = let t = handed_over e d (s.object q).phase in omega arith
  over_after z s d (Shelve b) sound asks q = omega arith
  over_after z s d (Unshelve b) sound asks q = omega arith

  pub given_over : (z : Opening) (h : List (Entry V)) → IsLegal z h → (o : ℕ) → given o h ≡ over ((leads z h).object o).phase
  given_over z [] legal o = refl
  given_over z (e ∷ h) legal o =
      let t = over_after z (leads z h) e.desk e.event (sound z h legal.0) legal.1.asks o in let u = given_over z h legal.0 o in omega arith

  pub names_an_object : NamesAnObject V
  names_an_object z h legal d k x holds =
      let s = leads z h in
      let fine = sound z h legal in
      let o = object_of x in
      let busy = held_busy z s d o k x.place fine (written s.hands d k x holds.0 holds.1 holds.2) in
      let made = was_made z s o fine (λ u. let t = fine.unmade_free o u in omega arith) in
      let some' : o ≢ 0 = λ e. let t = fine.unmade_free 0 fine.none in let u = ap (weak_number s) e in omega arith in
      let place = fine.placed o busy in
      (omega arith, omega arith, place.0, place.1, λ v. let t = v o refl in omega arith)

live_counted : (p : Phase) (n : ℕ) → OwnersFit p n → p ≡ live → 0 < n
live_counted unmade n f e = absurd cc
live_counted live n f e = f
live_counted gone n f e = absurd cc
live_counted (ending d) n f e = absurd cc

module _ {V : Type 0} where
  pub live_while_owned : LiveWhileOwned V
  live_while_owned z h legal o =
      let fine = sound z h legal in (
        live_counted ((leads z h).object o).phase (count (leads z h) o) (fine.owners o),
        λ more. counted_live z (leads z h) o fine more,
      )

  pub legal_seen : (z : Opening) (later seen : List (Entry V)) → IsLegal z (later ++ seen) → IsLegal z seen
  legal_seen z [] seen l = l
  legal_seen z (e ∷ later) seen l = legal_seen z later seen l.0

  over_grows : (z : Opening) (later seen : List (Entry V)) (o : ℕ) → IsLegal z (later ++ seen)
      → over ((leads z seen).object o).phase ≤ over ((leads z (later ++ seen)).object o).phase
  over_grows z [] seen o legal = omega arith
  over_grows z (e ∷ later) seen o legal =
      let t = over_after z (leads z (later ++ seen)) e.desk e.event (sound z (later ++ seen) legal.0) legal.1.asks o in
      let u = over_grows z later seen o legal.0 in omega arith

over_fits : (p : Phase) (n : ℕ) → OwnersFit p n → 0 < over p → n ≡ 0
over_fits unmade n f h = absurd (omega arith)
over_fits live n f h = absurd (omega arith)
over_fits gone n f h = f
over_fits (ending d) n f h = f

fits_over : (p : Phase) (n : ℕ) → OwnersFit p n → n ≡ 0 → p ≢ unmade → 0 < over p
fits_over unmade n f e m = absurd (m refl)
fits_over live n f e m = absurd (omega arith)
fits_over gone n f e m = omega arith
fits_over (ending d) n f e m = omega arith

module _ {V : Type 0} where
  pub stays_expired : StaysExpired V
  stays_expired z later seen legal d x holds none =
      let s = leads z seen in
      let o = object_of x in
      let fine = sound z seen (legal_seen z later seen legal) in
      let busy = held_busy z s d o Weak x.place fine (written s.hands d Weak x holds.0 holds.1 holds.2) in
      let made : (s.object o).phase ≢ unmade = λ u. let t = fine.unmade_free o u in omega arith in
      let a = fits_over (s.object o).phase (count s o) (fine.owners o) none made in
      let b = over_grows z later seen o legal in
      over_fits ((leads z (later ++ seen)).object o).phase _ ((sound z (later ++ seen) legal).owners o) (omega arith)
