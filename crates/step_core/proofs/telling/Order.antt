-- No more objects are left by their last owners than were made.
use Rattle.std.proofs.Common.{◌≡◌, ℕ, zero, suc, ◌+◌, ◌<◌, ◌≤◌, Bool, true, false, cond, ◌≢◌, List}
use Rattle.std.proofs.Common.{[], ◌∷◌, length, refl, ap, ◌∙◌, ⊎_elim, arith, eq-eqb}
use Rattle.step_core.proofs.Prelude.{cases_eq, cond-false, cond-true, ended_in, ending, ends_by}
use Rattle.step_core.proofs.Prelude.{Entry, Event, filter, given, given_over, gone, is_last_leave}
use Rattle.step_core.proofs.Prelude.{IsLegal, leads, live, made_in, Nothing, object_of, Opening}
use Rattle.step_core.proofs.Prelude.{over, Phase, sound, State, unmade, was_made}
use Rattle.control_word.specs.declared.model.event.Cell.TheVariants.{Free, Member}
use Rattle.control_word.specs.declared.model.event.Event.TheVariants.{ClearMember, Compare, Count}
use Rattle.control_word.specs.declared.model.event.Event.TheVariants.{Expired, Finish, Join, Leave}
use Rattle.control_word.specs.declared.model.event.Event.TheVariants.{Load, Lock, Make, Read, Same}
use Rattle.control_word.specs.declared.model.event.Event.TheVariants.{Share, Shelve, Split, Swap}
use Rattle.control_word.specs.declared.model.event.Event.TheVariants.{Unshelve, Visit, WeakLeave}
use Rattle.control_word.specs.declared.model.event.Event.TheVariants.{WeakShare}
use Rattle.control_word.specs.Events.{after}
use Rattle.step_core.specs.Totals.{is_make}

made_after : (s : State) (d : ℕ) (a : Event Nothing) → (after s d a).made ≡ s.made + cond (is_make a) 1 0
made_after s d (Make b enabled null fields val) = omega arith
made_after s d (Share h p) = omega arith
made_after s d (Leave h last) = omega arith
made_after s d (Count h n) = omega arith
made_after s d (Expired h x) = omega arith
made_after s d (Read h n) = omega arith
made_after s d (Same c h x) = omega arith
made_after s d (WeakShare o p) = omega arith
made_after s d (WeakLeave h x) = omega arith
made_after s d (Lock h x) = omega arith
made_after s d (ClearMember o n h) = omega arith
made_after s d (Finish o x val) = omega arith
made_after s d (Load c x) = omega arith
made_after s d (Swap (Free c) x y) = omega arith
made_after s d (Swap (Member o n) x y) = omega arith
made_after s d (Compare (Free c) e x y true w) = omega arith
made_after s d (Compare (Member o n) e x y true w) = omega arith
made_after s d (Compare c e x y false w) = omega arith
made_after s d (Visit h x y) = omega arith
made_after s d (Split e amount x y) = omega arith
made_after s d (Join e) = omega arith
made_after s d (Shelve b) = omega arith
made_after s d (Unshelve b) = omega arith

-- one more event
made_more : (e : Entry Nothing) (h : List (Entry Nothing)) (b : Bool) → is_make e.event ≡ b → made_in (e ∷ h) ≡ made_in h + cond b 1 0
made_more e h true is =
    let p : Entry Nothing → Bool = λ x. is_make x.event in
    let c = cond-true (is_make e.event) (e ∷ filter p h) (filter p h) is in
    let l = ap (λ (z : List (Entry Nothing)). length z) c in omega (arith, l)
made_more e h false is =
    let p : Entry Nothing → Bool = λ x. is_make x.event in
    let c = cond-false (is_make e.event) (e ∷ filter p h) (filter p h) is in
    let l = ap (λ (z : List (Entry Nothing)). length z) c in omega (arith, l)

pub ended_more : (e : Entry Nothing) (h : List (Entry Nothing)) (b : Bool) → is_last_leave e.event ≡ b → ended_in (e ∷ h) ≡ ended_in h + cond b 1 0
ended_more e h true is =
    let p : Entry Nothing → Bool = λ x. is_last_leave x.event in
    let c = cond-true (is_last_leave e.event) (e ∷ filter p h) (filter p h) is in
    let l = ap (λ (z : List (Entry Nothing)). length z) c in omega (arith, l)
ended_more e h false is =
    let p : Entry Nothing → Bool = λ x. is_last_leave x.event in
    let c = cond-false (is_last_leave e.event) (e ∷ filter p h) (filter p h) is in
    let l = ap (λ (z : List (Entry Nothing)). length z) c in omega (arith, l)

made_is : (z : Opening) (h : List (Entry Nothing)) → (leads z h).made ≡ made_in h
made_is z [] = refl
made_is z (e ∷ h) =
    let a = made_after (leads z h) e.desk e.event in
    let m = made_more e h (is_make e.event) refl in
    let i = made_is z h in
    omega (arith, a, m, i)

-- how often an event, or a history, says of the first n objects that their last owners left
abbrev all_ends : ℕ → Event Nothing → ℕ
all_ends zero a = 0
all_ends (suc n) a = ends_by (suc n) a + all_ends n a

abbrev all_given : ℕ → List (Entry Nothing) → ℕ
all_given zero h = 0
all_given (suc n) h = given (suc n) h + all_given n h

more_given : (n : ℕ) (e : Entry Nothing) (h : List (Entry Nothing)) → all_given n (e ∷ h) ≡ all_ends n e.event + all_given n h
more_given zero e h = refl
more_given (suc n) e h = let i = more_given n e h in omega (arith, i)

within : (n o : ℕ) (a : Event Nothing) → 1 ≤ o → o ≤ n → ends_by o a ≤ all_ends n a
within zero o a low high = absurd (omega (arith, low, high))
within (suc n) o a low high =
    ⊎_elim (λ (e : o ≡ suc n). let p = ap (λ (i : ℕ). ends_by i a) e in omega (arith, p))
    (λ (ne : o ≢ suc n). let i = within n o a low (omega (arith, high, ne)) in omega (arith, i)) (cases_eq o (suc n))

last_within : (n : ℕ) (a : Event Nothing) → ((o : ℕ) → 0 < ends_by o a → (1 ≤ o) × (o ≤ n)) → cond (is_last_leave a) 1 0 ≤ all_ends n a
last_within n (Leave h true) range =
    let o = object_of h in
    let a : Event Nothing = Leave h true in
    let e : ◌≡◌ {A = ℕ} (ends_by o a) 1 = ap (λ (b : Bool). cond b 1 0) (eq-eqb o o refl) in
    let r = range o (omega (arith, e)) in
    let w = within n o a r.0 r.1 in
    omega (arith, e, w)
last_within n (Leave h false) range = omega arith
last_within n (Make b enabled null fields val) range = omega arith
last_within n (Share h p) range = omega arith
last_within n (Count h m) range = omega arith
last_within n (Expired h x) range = omega arith
last_within n (Read h m) range = omega arith
last_within n (Same c h x) range = omega arith
last_within n (WeakShare o p) range = omega arith
last_within n (WeakLeave h x) range = omega arith
last_within n (Lock h x) range = omega arith
last_within n (ClearMember o m h) range = omega arith
last_within n (Finish o x val) range = omega arith
last_within n (Load c x) range = omega arith
last_within n (Swap c x y) range = omega arith
last_within n (Compare c e x y b w) range = omega arith
last_within n (Visit h x y) range = omega arith
last_within n (Split e amount x y) range = omega arith
last_within n (Join e) range = omega arith
last_within n (Shelve b) range = omega arith
last_within n (Unshelve b) range = omega arith

over_one : (p : Phase) → over p ≤ 1
over_one unmade = omega arith
over_one live = omega arith
over_one gone = omega arith
over_one (ending d) = omega arith

not_unmade : (p : Phase) → 0 < over p → p ≢ unmade
not_unmade p some e = let t = ap over e in omega (arith, t, some)

ended_most : (z : Opening) (h : List (Entry Nothing)) → IsLegal z h → (n : ℕ) → (leads z h).made ≤ n → ended_in h ≤ all_given n h
ended_most z [] legal n le = omega arith
ended_most z (e ∷ h) legal n le =
    let m = made_after (leads z h) e.desk e.event in
    let i = ended_most z h legal.0 n (omega (arith, m, le)) in
    let a = ended_more e h (is_last_leave e.event) refl in
    let g = more_given n e h in
    let l = last_within n e.event
    (λ o some.
    let fine = sound z (e ∷ h) legal in
    let s = leads z (e ∷ h) in
    let q = given_over z (e ∷ h) legal o in
    let made = not_unmade (s.object o).phase (omega (arith, q, some)) in
    let high = was_made z s o fine made in
    let nonzero : o ≢ 0 = λ is. made (ap (λ (k : ℕ). (s.object k).phase) is ∙ fine.none) in
    (omega (arith, nonzero), omega (arith, high, le))) in
    omega (arith, i, a, g, l)

few_given : (z : Opening) (h : List (Entry Nothing)) → IsLegal z h → (n : ℕ) → all_given n h ≤ n
few_given z h legal zero = omega arith
few_given z h legal (suc n) =
    let i = few_given z h legal n in
    let g = given_over z h legal (suc n) in
    let o = over_one ((leads z h).object (suc n)).phase in
    omega (arith, i, g, o)

pub ended_few : (z : Opening) (h : List (Entry Nothing)) → IsLegal z h → ended_in h ≤ made_in h
ended_few z h legal =
    let m = made_is z h in
    let a = ended_most z h legal (leads z h).made (omega arith) in
    let b = few_given z h legal (leads z h).made in
    omega (arith, m, a, b)
