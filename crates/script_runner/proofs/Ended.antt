-- No more objects end than are made: each last owner that leaves is one of another object that was made.
use Rattle.std.proofs.Common.{◌≡◌, ℕ, zero, suc, ◌+◌, ◌<◌, ◌≤◌, true, cond, List, [], ◌∷◌, ◌==◌}
use Rattle.std.proofs.Common.{refl, ap, ◌∙◌, arith, eq-eqb}
use Rattle.script_runner.proofs.Prelude.{after, Asks, Compare, cond-true, cond_both}
use Rattle.script_runner.proofs.Prelude.{count_ended_by, count_ended_in, count_made_in, ending}
use Rattle.script_runner.proofs.Prelude.{ends, Entry, Event, Free, IsLegal, leads, made_by, makes}
use Rattle.script_runner.proofs.Prelude.{names_an_object, Opening, sound, State, Swap, unmade}
use Rattle.control_word.proofs.history.Given.{given_over, over}
use Rattle.control_word.proofs.lists.Sums.{sum_at, sum_plus}
use Rattle.control_word.specs.Handles.{object_of}
use Rattle.control_word.specs.Histories.{ends_by, given}
use Rattle.control_word.specs.State.{Phase, gone, live, sum_below}
use Rattle.control_word.specs.declared.model.event.Cell.TheVariants.{Member}
use Rattle.control_word.specs.declared.model.event.Event.TheVariants.{Leave}
use Rattle.control_word.specs.declared.model.handle.Kind.TheVariants.{Owner}

over_once : (p : Phase) → over p ≤ 1
over_once unmade = omega arith
over_once live = omega arith
over_once gone = omega arith
over_once (ending d) = omega arith

-- of a sum whose first term is 0 and whose others are 1 at most
sum_low : (n : ℕ) (f : ℕ → ℕ) → f 0 ≡ 0 → ((i : ℕ) → f i ≤ 1) → sum_below (suc n) f ≤ n
sum_low zero f none low = omega (arith, none)
sum_low (suc n) f none low = let a = low (suc n) in let b = sum_low n f none low in omega (arith, a, b)

module _ {V : Type 0} where
  made_after : (s : State) (d : ℕ) (a : Event V) → (after s d a).made ≡ makes a + s.made
  made_after s d (Swap (Free c) x y) = omega arith
  made_after s d (Swap (Member o m) x y) = omega arith
  made_after s d (Compare (Free c) e x y true w) = omega arith
  made_after s d (Compare (Member o m) e x y true w) = omega arith
  made_after s d a = omega arith

  -- objects are numbered by their makes
  pub made_count : (z : Opening) (h : List (Entry V)) → (leads z h).made ≡ count_made_in h
  made_count z [] = refl
  made_count z (e ∷ h) =
      let a = made_after (leads z h) e.desk e.event in let ih = made_count z h in omega (arith, a, ih)

  -- an owner that leaves as the last is one of an object that was made
  ends_one : (z : Opening) (h : List (Entry V)) (d : ℕ) (a : Event V) (n : ℕ) → IsLegal z h → Asks (leads z h) d a
      → (leads z h).made < n → ends a ≤ sum_below n (λ o. ends_by o a)
  ends_one z h d (Leave x true) n legal asks below =
      let o = object_of x in
      let named = names_an_object z h legal d Owner x asks.0 in
      let made = named.1 in
      let one : ◌≡◌ {A = ℕ} (cond (o == o) 1 0) 1 = cond-true (o == o) 1 0 (eq-eqb o o refl) in
      let term = sum_at n o (λ q. cond (o == q) 1 0) (omega (arith, made, below)) in
      omega (arith, one, term)
  ends_one z h d a n legal asks below = omega arith

  ended_given : (z : Opening) (h : List (Entry V)) (n : ℕ) → IsLegal z h → (leads z h).made < n
      → count_ended_in h ≤ sum_below n (λ o. given o h)
  ended_given z [] n legal below = omega arith
  ended_given z (e ∷ h) n legal below =
      let more = made_after (leads z h) e.desk e.event in
      let was : (leads z h).made < n = omega (arith, more, below) in
      let a = ends_one z h e.desk e.event n legal.0 legal.1.asks was in
      let b = ended_given z h n legal.0 was in
      let c = sum_plus n (λ o. ends_by o e.event) (λ o. given o h) (λ o. given o (e ∷ h)) (λ o. refl) in
      omega (arith, a, b, c)

  -- no object's last owner leaves twice
  pub ended_few : (z : Opening) (h : List (Entry V)) → IsLegal z h → count_ended_in h ≤ count_made_in h
  ended_few z h legal =
      let n = (leads z h).made in
      let once : (o : ℕ) → given o h ≤ 1 = λ o.
      let a = given_over z h legal o in let b = over_once ((leads z h).object o).phase in omega (arith, a, b) in
      let none : given 0 h ≡ 0 = given_over z h legal 0 ∙ ap over (sound z h legal).none in
      let a = ended_given z h (suc n) legal (omega arith) in
      let b = sum_low n (λ o. given o h) none once in
      let c = made_count z h in
      omega (arith, a, b, c)

  -- what a name makes and ends is some of what the history does
  pub by_few : (n : ℕ) (h : List (Entry V)) → count_ended_by n h ≤ count_ended_in h
  by_few n [] = omega arith
  by_few n (e ∷ h) =
      let a : cond (e.desk == n) (ends e.event) 0 ≤ ends e.event =
      cond_both (e.desk == n) (ends e.event) 0 (λ k. k ≤ ends e.event) (λ is. omega arith) (λ is. omega arith) in
      let ih = by_few n h in omega (arith, a, ih)

  pub made_few : (n : ℕ) (h : List (Entry V)) → made_by n h ≤ count_made_in h
  made_few n [] = omega arith
  made_few n (e ∷ h) =
      let a : cond (e.desk == n) (makes e.event) 0 ≤ makes e.event =
      cond_both (e.desk == n) (makes e.event) 0 (λ k. k ≤ makes e.event) (λ is. omega arith) (λ is. omega arith) in
      let ih = made_few n h in omega (arith, a, ih)
