-- Handles leave, and objects end.
use Rattle.std.proofs.Common.{◌≡◌, ℕ, zero, suc, ◌+◌, ◌<◌, Bool, true, false, ◌&&◌, ◌≢◌, List}
use Rattle.std.proofs.Common.{◌==◌, Some, Option, sym, refl, ap, ◌∙◌, subst, ⊎_elim, arith}
use Rattle.std.proofs.Common.{eqb-true}
use Rattle.control_word.proofs.Prelude
use Prelude.{and_parts, cases_eq, cases_lt, changes, common, empty, ending, eqb-false, finishes, gone}
use Prelude.{handle, Has, Held, held, is_gone, IsVacant, kind_of_member, leaves, live, loses}
use Prelude.{members, moved_to, Object, Opening, Owner, Phase, Place, put, same_held, State}
use Prelude.{times_kept, unmade, Weak, weak_leaves, weak_number, without}
use Rattle.control_word.proofs.history.Moving.{count_same, counted_live, fits_from_live, fits_same}
use Rattle.control_word.proofs.history.Moving.{less_owners, less_weaks, live_busy, owner_counted}
use Rattle.control_word.proofs.history.Moving.{sound_hands, sound_moves, sound_vacates, weak_same}
use Rattle.control_word.proofs.history.Soundness.{IsBusy, OwnersFit, Sound, kept_vacant}
use Rattle.control_word.proofs.lists.Tallies.{put_again, put_cases}
use Rattle.control_word.specs.State.{count, weak}

-- o was busy and is not, and so its block is vacant
pub becomes_vacant : (z : Opening) (s s' : State) (o : ℕ) → Sound z s → IsBusy s o → weak_number s' o ≡ 0
    → ((q : ℕ) → 0 < weak_number s' q → 0 < weak_number s q) → ((q : ℕ) → (s'.object q).block ≡ (s.object q).block)
    → IsVacant s' (s.object o).block
becomes_vacant z s s' o sound busy none less block q e = go (weak_number s' q) refl
  where
    go : (n : ℕ) → weak_number s' q ≡ n → n ≡ 0
    go zero t = refl
    go (suc n) t =
        let b : IsBusy s q = less q (omega arith) in
        let there = (sound.placed q b).0 in
        let here = (sound.placed o busy).0 in
        let same : q ≡ o = sym there ∙ (ap s.latest (sym (block q) ∙ e) ∙ here) in
        let gone : weak_number s' q ≡ 0 = ap (weak_number s') same ∙ none in
        absurd (omega arith)

-- the block of a busy object is in no store, and not on the shelf
pub busy_absent : (z : Opening) (s : State) (o : ℕ) → Sound z s → IsBusy s o → times_kept s (s.object o).block ≡ 0
busy_absent z s o sound busy = go (times_kept s (s.object o).block) refl
  where
    go : (n : ℕ) → times_kept s (s.object o).block ≡ n → n ≡ 0
    go zero t = refl
    go (suc n) t =
        let v = (kept_vacant z s sound (s.object o).block (omega arith)).0 o refl in absurd (omega arith)

last_owner : (z : Opening) (s : State) (d o : ℕ) (p : Option Place) → Sound z s → Has (held d (handle Owner (Some o) p)) s.hands → count s o ≡ 1
    → Sound z (record s { hands = without same_held (held d (handle Owner (Some o) p)) s.hands; object = put s.object o (moved_to (ending d) (s.object o)) })
last_owner z s d o p sound h one = sound_moves z s hs f s.cell sound (record {
  owners = λ q. fits_same _ _ _ (put_cases (λ j y. OwnersFit y.phase (count (record s { hands = hs }) j)) s.object o x q
      (λ e. let t = (less_owners s d o p h q).0 e in let u : count s q ≡ 1 = ap (count s) e ∙ one in omega arith)
      (λ n. fits_same _ _ _ (sound.owners q) (sym ((less_owners s d o p h q).1 n)))) (count_same s hs f members' q);
  weaks = λ q. let t = weak_same s hs f members' q in let u = (less_owners s d o p h q).2 in
      put_cases (λ j y. j ≡ q → 0 < weak (record s { hands = hs; object = f }) q + common y.phase → 0 < weak_number s q) s.object o x q
      (λ e e2 w. subst (IsBusy s) (sym e) busy) (λ n e2 w. omega arith) refl;
  block = λ q. put_cases (λ j y. y.block ≡ (s.object j).block) s.object o x q (λ e. ap (λ n. (s.object n).block) (sym e)) (λ n. refl);
  made = λ q. put_cases (λ j y. ((s.object j).phase ≡ unmade → y.phase ≡ unmade) × (y.phase ≡ unmade → (s.object j).phase ≡ unmade)) s.object o x
      q
      (λ e. ((λ u. let v : (s.object q).phase ≡ live = ap (λ n. (s.object n).phase) e ∙ alive in cc), λ u. cc)) (λ n. ((λ u. u), λ u. u));
  cleared = λ q m lt. put_cases (λ j y. common y.phase ≡ 0
      → y.member m ≡ empty (kind_of_member s.owners m)) s.object o x q (λ e u. absurd (omega arith)) (λ n. sound.cleared q m lt);
  unused = λ q m le. put_cases (λ j y. y.member m ≡ empty (kind_of_member s.owners m)) s.object o x q (λ e. sound.unused o m le) (λ n. sound.unused q m le);
})
  where
    hs : List Held
    hs = without same_held (held d (handle Owner (Some o) p)) s.hands

    x : Object
    x = moved_to (ending d) (s.object o)

    f : ℕ → Object
    f = put s.object o (moved_to (ending d) (s.object o))

    members' : (q : ℕ) → members (put s.object o (moved_to (ending d) (s.object o)) q) ≡ members (s.object q)
    members' q = put_cases (λ j y. members y ≡ members (s.object j)) s.object o (moved_to (ending d) (s.object o)) q (λ e. ap
        (λ n. members (s.object n)) (sym e)) (λ n. refl)

    alive : (s.object o).phase ≡ live
    alive = counted_live z s o sound (omega arith)

    busy : IsBusy s o
    busy = live_busy s o (counted_live z s o sound (omega arith))

gone_common : (p : Phase) → is_gone p ≡ true → common p ≡ 0
gone_common unmade e = cc
gone_common live e = cc
gone_common gone e = refl
gone_common (ending d) e = cc

pub sound_leave : (z : Opening) (s : State) (d o : ℕ) (p : Option Place) (last : Bool) → Sound z s → Has (held d (handle Owner (Some o) p)) s.hands
    → last ≡ (count s o == 1)
    → Sound z (leaves d (handle Owner (Some o) p) last s)
sound_leave z s d o p true sound h e = last_owner z s d o p sound h (eqb-true (count s o) 1 (sym e))
sound_leave z s d o p false sound h e =
    let hs = without same_held (held d (handle Owner (Some o) p)) s.hands in
    let there = owner_counted s d o p h in
    let alive = counted_live z s o sound there in
    let many : count s o ≢ 1 = eqb-false (count s o) 1 (sym e) in
    subst (λ (f : ℕ → Object). Sound z (record s { hands = hs; object = f })) (sym (put_again s.object o))
    (sound_hands z s hs sound
    (λ q. ⊎_elim (λ t. fits_from_live _ _ (ap (λ n. (s.object n).phase) t ∙ alive) (let u = (less_owners s d o p h q).0 t in
    let v : count s q ≡ count s o = ap (count s) t in omega arith))
    (λ n. fits_same _ _ _ (sound.owners q) (sym ((less_owners s d o p h q).1 n))) (cases_eq q o))
    (λ q busy. let t = (less_owners s d o p h q).2 in omega arith))

pub weak_numbers_fall : (s : State) (d o : ℕ) (p : Option Place) → Has (held d (handle Weak (Some o) p)) s.hands → (q : ℕ)
    → 0 < weak_number (loses d (handle Weak (Some o) p) s) q → 0 < weak_number s q
weak_numbers_fall s d o p h q busy =
    ⊎_elim (λ t. let u = (less_weaks s d o p h q).0 t in omega arith) (λ n. let u = (less_weaks s d o p h q).1 n in omega arith) (cases_eq q o)

sound_loses_weak : (z : Opening) (s : State) (d o : ℕ) (p : Option Place) → Sound z s → Has (held d (handle Weak (Some o) p)) s.hands
    → Sound z (loses d (handle Weak (Some o) p) s)
sound_loses_weak z s d o p sound h =
    sound_hands z s (without same_held (held d (handle Weak (Some o) p)) s.hands) sound
    (λ q. fits_same _ _ _ (sound.owners q) (sym ((less_weaks s d o p h q).2))) (weak_numbers_fall s d o p h)

pub sound_weak_leave : (z : Opening) (s : State) (d o : ℕ) (p : Option Place) (vacant : Bool) → Sound z s → Has (held d (handle Weak (Some o) p)) s.hands
    → vacant ≡ (weak s o == 1 && is_gone (s.object o).phase) → Sound z (weak_leaves d (handle Weak (Some o) p) vacant s)
sound_weak_leave z s d o p false sound h e = sound_loses_weak z s d o p sound h
sound_weak_leave z s d o p true sound h e =
    let s' = loses d (handle Weak (Some o) p) s in
    let t = and_parts (weak s o == 1) (is_gone (s.object o).phase) (sym e) in
    let one : weak s o ≡ 1 = eqb-true (weak s o) 1 t.0 in
    let gone' = gone_common (s.object o).phase t.1 in
    let less = (less_weaks s d o p h o).0 refl in
    let busy : IsBusy s o = omega arith in
    let none : weak_number s' o ≡ 0 = omega arith in
    sound_vacates z s' d (s.object o).block (sound_loses_weak z s d o p sound h)
    (becomes_vacant z s s' o sound busy none (weak_numbers_fall s d o p h) (λ q. refl)) ((sound.placed o busy).1) (busy_absent z s o sound busy)

pub finish_phase : (z : Opening) (s : State) (d o : ℕ) → Sound z s → (s.object o).phase ≡ ending d → ((m : ℕ) → m < s.members
    → (s.object o).member m ≡ empty (kind_of_member s.owners m))
    → Sound z (changes o (moved_to gone (s.object o)) s)
    × ((q : ℕ) → 0 < weak_number (changes o (moved_to gone (s.object o)) s) q → 0 < weak_number s q)
    × (weak_number (changes o (moved_to gone (s.object o)) s) o ≡ weak s o)
finish_phase z s d o sound end cleared' = (
  sound_moves z s s.hands f s.cell sound (record {
    owners = λ q. fits_same _ _ _ (put_cases (λ j y. OwnersFit y.phase (count s j)) s.object o x q
        (λ e. subst (λ n. OwnersFit gone (count s n)) (sym e) (subst (λ (ph : Phase). OwnersFit ph (count s o)) end (sound.owners o)))
        (λ n. sound.owners q)) (count_same s s.hands f members' q);
    weaks = fall;
    block = λ q. put_cases (λ j y. y.block ≡ (s.object j).block) s.object o x q (λ e. ap (λ n. (s.object n).block) (sym e)) (λ n. refl);
    made = λ q. put_cases (λ j y. ((s.object j).phase ≡ unmade → y.phase ≡ unmade) × (y.phase ≡ unmade → (s.object j).phase ≡ unmade)) s.object o
        x q
        (λ e. ((λ u. let v : (s.object q).phase ≡ ending d = ap (λ n. (s.object n).phase) e ∙ end in cc), λ u. cc)) (λ n. ((λ u. u), λ u. u));
    cleared = λ q m lt. put_cases (λ j y. common y.phase ≡ 0
        → y.member m ≡ empty (kind_of_member s.owners m)) s.object o x q (λ e u.
        ⊎_elim (λ low. cleared' m low) (λ high. sound.unused o m high) (cases_lt m s.members)) (λ n. sound.cleared q m lt);
    unused = λ q m le. put_cases (λ j y. y.member m ≡ empty (kind_of_member s.owners m)) s.object o x q (λ e. sound.unused o m le) (λ n. sound.unused q m le);
  }),
  fall,
  put_cases (λ j y. j ≡ o
      → weak (record s { object = f }) o + common y.phase ≡ weak s o) s.object o x o (λ e e2. let t = weak_same s s.hands f members' o in omega arith)
      (λ n e2. absurd (n refl)) refl,
)
  where
    x : Object
    x = moved_to gone (s.object o)

    f : ℕ → Object
    f = put s.object o (moved_to gone (s.object o))

    members' : (q : ℕ) → members (put s.object o (moved_to gone (s.object o)) q) ≡ members (s.object q)
    members' q = put_cases (λ j y. members y ≡ members (s.object j)) s.object o (moved_to gone (s.object o)) q (λ e. ap
        (λ n. members (s.object n)) (sym e)) (λ n. refl)

    fall : (q : ℕ) → 0 < weak_number (record s { object = put s.object o (moved_to gone (s.object o)) }) q → 0 < weak_number s q
    fall q = let t = weak_same s s.hands f members' q in
        put_cases (λ j y. j ≡ q → 0 < weak (record s { object = f }) q + common y.phase
        → 0 < weak_number s q) s.object o x q (λ e e2 w. omega arith) (λ n e2 w. omega arith) refl

pub sound_finish : (z : Opening) (s : State) (d o : ℕ) (vacant : Bool) → Sound z s → (s.object o).phase ≡ ending d → ((m : ℕ) → m < s.members
    → (s.object o).member m ≡ empty (kind_of_member s.owners m))
    → vacant ≡ (weak s o == 0) → Sound z (finishes d o vacant s)
sound_finish z s d o false sound end cleared' e = (finish_phase z s d o sound end cleared').0
sound_finish z s d o true sound end cleared' e =
    let t = finish_phase z s d o sound end cleared' in
    let s' = changes o (moved_to gone (s.object o)) s in
    let zero' : weak s o ≡ 0 = eqb-true (weak s o) 0 (sym e) in
    let c : common (s.object o).phase ≡ 1 = ap common end in
    let busy : IsBusy s o = omega arith in
    let none : weak_number s' o ≡ 0 = t.2 ∙ zero' in
    sound_vacates z s' d (s.object o).block t.0
    (becomes_vacant z s s' o sound busy none t.1 (λ q. put_cases (λ j y. y.block ≡ (s.object j).block) s.object o (moved_to gone (s.object o)) q
    (λ e. ap (λ n. (s.object n).block) (sym e)) (λ n. refl)))
    ((sound.placed o busy).1) (busy_absent z s o sound busy)
