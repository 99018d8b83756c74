-- A look at what is fixed of an object changes nothing, and tells it.
use Rattle.std.proofs.Common.{◌≡◌, ℕ, zero, suc, ◌+◌, ◌-◌, ◌*◌, ◌<◌, ◌≤◌, true, false, cond, ◌⊎◌}
use Rattle.std.proofs.Common.{List, [], ◌∷◌, map, get_or, set, ◌==◌, slice_index, Some, Option}
use Rattle.std.proofs.Common.{sym, refl, ap, ◌∙◌, subst, ⊎_elim, arith, ne_eqb}
use Rattle.control_block.proofs.Prelude
use Prelude.{added, adds, Allows, At, blocks_of, cond-false, cond_both, Ends, Entry, Fits}
use Prelude.{flags_of, get_elem?, handle, held_busy, held_made, HoldingInBlock, Idle, IsBusy}
use Prelude.{IsNearObject, IsTold, keeps, Kind, known, leads, Making, Merging, none, Object}
use Prelude.{Opening, opening_of, Parting, Paying, peeked, Pending, Place, Ruled, SeatView, Shape}
use Prelude.{some, sound, spot, step, total, value, View, view_of, Visiting}
use Rattle.std.proofs.lemmas.List.{set-get_or}
use Rattle.atomic_table.specs.Table as Table
use Rattle.control_word.proofs.history.Kept.{stays_as_made}
use Rattle.control_word.proofs.words.Body.{body_more, body_read, words_field, words_flags}
use Rattle.control_word.proofs.funded.Apart.{body_apart}
use Rattle.control_word.proofs.funded.Next.{plain_word}
use Rattle.control_word.specs.Views.{Stands}
use Rattle.control_word.specs.Words.{object_words}
use Rattle.control_block.proofs.Endings.{ends_busy, ends_here}
use Rattle.control_block.proofs.words.Lists.{set_same}
use Rattle.control_block.proofs.Passage.{held_there, known_as, knows, legal_known, still_ending}

times_four : {A : Type 0} (f g : A → ℕ) (l : List A) → ((i : ℕ) (a : A) → get_elem? l i ≡ some a → f a ≡ 4 * g a)
    → total f l ≡ 4 * total g l
times_four f g [] h = omega arith
times_four f g (x ∷ xs) h = let t = h 0 x refl in let u = times_four f g xs (λ i a e. h (suc i) a e) in omega arith

-- the one has what the other was made with
abbrev IsAsMade : Object → Object → Type 0
IsAsMade x y = (y.block ≡ x.block) × (y.fields ≡ x.fields) × (y.enabled ≡ x.enabled) × (y.null ≡ x.null)

told_as : (j : ℕ) (x y : Object) (n : ℕ) → IsAsMade x y → IsTold j y n → IsTold j x n
told_as zero x y n f t = t ∙ (λ i. flags_of (f.2 i) (f.3 i))
told_as (suc k) x y n f t = t ∙ ap (λ l. slice_index l k) f.1

module _ {V : Type 0} where
  -- the doors that a half-done call has shut at word i
  shut : Pending V → ℕ → ℕ
  shut (Visiting o p word v) i = cond (i == word) 1 0
  shut _ i = 0

  door_adds : (words : List ℕ) (z : Opening) (h : List (Entry V)) (b d : ℕ) (p : Pending V) → Fits words (leads z h) (value z h) d p
      → adds p (spot b 2) ≡ 4 * shut p (spot b 2)
  unfolding shut
  door_adds words z h b d Idle f = omega arith
  door_adds words z h b d (Paying m o p w funds loads) f = omega arith
  door_adds words z h b d (Parting to) f = omega arith
  door_adds words z h b d (Merging other x y) f = omega arith
  door_adds words z h b d (Making c known') f =
      let e : ◌≡◌ {A = ℕ} (cond (spot b 2 == spot c.0 1) 1 0) 0 = cond-false (spot b 2 == spot c.0 1) 1 0
      (ne_eqb (spot b 2) (spot c.0 1) (λ e. omega arith)) in
      omega arith
  door_adds words z h b d (Visiting o p w x) f =
      cond_both (spot b 2 == w) 4 0 (λ r. r ≡ 4 * cond (spot b 2 == w) 1 0)
      (λ t. let u : ◌≡◌ {A = ℕ} (cond (spot b 2 == w) 1 0) 1 = Rattle.std.proofs.lemmas.Bool.cond-true (spot b 2 == w) 1 0 t in omega arith)
      (λ t. let u : ◌≡◌ {A = ℕ} (cond (spot b 2 == w) 1 0) 0 = cond-false (spot b 2 == w) 1 0 t in omega arith)

  -- what is on a flag word besides the flags are shut doors
  doors : (z : Opening) (words : List ℕ) (views : List (View V)) (h : List (Entry V)) → Stands z words views h → (b : ℕ)
      → (n : ℕ) × (added views (spot b 2) ≡ 4 * n)
  unfolding shut
  doors z words views h stands b = (
    total (λ (v : View V). shut v.pending (spot b 2)) views,
    times_four (λ (v : View V). adds v.pending (spot b 2)) (λ v. shut v.pending (spot b 2)) views
        (λ j v e. go j v e v.spent refl),
  )
    where
      go : (j : ℕ) (v : View V) → get_elem? views j ≡ some v → (t : Rattle.std.proofs.Common.Bool) → v.spent ≡ t
          → adds v.pending (spot b 2) ≡ 4 * shut v.pending (spot b 2)
      go j v e true t = subst (λ p. adds p (spot b 2) ≡ 4 * shut p (spot b 2)) (sym (stands.team.rests j v e t)) (door_adds words z h b 0 Idle tt)
      go j v e false t = door_adds words z h b v.name v.pending (stands.team.seated j v e t).fits

  -- the flags and fields of an object that is there
  told_now : (z : Opening) (words : List ℕ) (views : List (View V)) (h : List (Entry V)) → Stands z words views h → (o j : ℕ) → IsBusy (leads z h) o
      → j < 5 → IsTold j ((leads z h).object o) (get_or words (spot ((leads z h).object o).block (2 + j)) 0)
  told_now z words views h stands o zero busy low =
      let s = leads z h in let b = (s.object o).block in
      let r = body_read z words views h stands o 2 busy (omega arith) (omega arith) in
      let e : 2 - 2 ≡ 0 = omega arith in
      let f = ap (λ k. get_or (object_words (blocks_of s) (s.object o)) k 0) e ∙ words_flags (blocks_of s) (s.object o) in
      let n = doors z words views h stands b in let n0 = n.0 in let n1 = n.1 in
      let few : flags_of (s.object o).enabled (s.object o).null < 4 = flags_low (s.object o).enabled (s.object o).null in
      omega arith
    where
      flags_low : (a c : Rattle.std.proofs.Common.Bool) → flags_of a c < 4
      flags_low true true = omega arith
      flags_low true false = omega arith
      flags_low false true = omega arith
      flags_low false false = omega arith
  told_now z words views h stands o (suc k) busy low =
      let s = leads z h in let b = (s.object o).block in
      let at : 2 + suc k ≡ 3 + k = omega arith in
      let r = body_read z words views h stands o (3 + k) busy (omega arith) (omega arith) in
      let none' = (body_more z words views h stands b (3 + k) ((sound z h stands.legal).placed o busy).1 (omega arith) (omega arith)).2
      (omega arith) in
      let f = words_field (blocks_of s) (s.object o) k (omega arith) in
      let e : 3 + k - 2 ≡ 1 + k = omega arith in
      let g = ap (λ j. get_or (object_words (blocks_of s) (s.object o)) j 0) e in
      ap (λ i. get_or words (spot b i) 0) at ∙ (omega (arith, r, none', g, f))

  pub allows_peek : (k : Shape) (slots id b o i j : ℕ) (me : At V) → me.0.view.spent ≡ false → IsNearObject me.0 o b → j < 5 → i ≡ spot b (2 + j)
      → Allows (Ruled k) slots id me i (λ n. n) (peeked o j (step slots i 0 0 none) me)
  allows_peek k slots id b o i j me awake near low e s r sized at small =
      let v = me.0 in let z = opening_of k in let h = leads z r.history in
      let fine = sound z r.history r.stands.stands.legal in
      let there = near_there k s r id v at awake o b near in
      let same_words : set s.words i (get_or s.words i 0) ≡ s.words = set-get_or s.words i 0 in
      let same_views : set s.views id v ≡ s.views = set_same s.views id v at in
      let plain = plain_word z s.words (map view_of s.views) r.history r.stands (spot (h.object o).block (2 + j))
      (body_apart z h fine (h.object o).block (2 + j) (fine.placed o there.1).1.0 (omega arith) (omega arith)) in
      let told = subst (IsTold j (h.object o)) (sym plain)
      (told_now z r.stands.bare (map view_of s.views) r.history r.stands.stands o j there.1 low) in
      let kept : IsAsMade ((known v).object o) (h.object o) =
      subst (λ (y : Rattle.control_word.specs.State.State). IsAsMade (y.object o) (h.object o)) (sym (known_as k s r id v at awake))
      (subst (λ l. IsAsMade ((leads z v.view.seen).object o) ((leads z l).object o)) (sym (knows k s r id v at awake).1)
      (stays_as_made z (knows k s r id v at awake).0 v.view.seen o there.2)) in (
        v,
        keeps,
        tt,
        subst (λ (y : List ℕ × List (SeatView V)). Ruled k record { words = y.0; homes = s.homes; views = y.1 })
            (λ q. (sym same_words q, sym same_views q)) r,
        (
          refl,
          told_as j ((known v).object o) (h.object o) (get_or s.words i 0) kept
              (subst (λ n. IsTold j (h.object o) (get_or s.words n 0)) (ap (λ c. spot c (2 + j)) there.0 ∙ sym e) told),
        ),
      )
    where
      near_there : (k : Shape) (s : Table.State (Option V) (SeatView V)) (r : Ruled k s) (id : ℕ) (v : SeatView V) (at : get_elem? s.views id ≡ some v)
          (awake : v.view.spent ≡ false) (o b : ℕ) → IsNearObject v o b
          → (((leads (opening_of k) r.history).object o).block ≡ b) × IsBusy (leads (opening_of k) r.history) o ×
          (o ≤ (leads (opening_of k) v.view.seen).made)
      near_there k s r id v at awake o b near = ⊎_elim
          (λ (t : (m : Kind) × (p : Option Place) × HoldingInBlock v m o p b).
          let z = opening_of k in let mine = held_there k s r id v at awake t.0 o t.1 b t.2 in (
            mine.1,
            held_busy z (leads z r.history) v.view.name o t.0 t.1 (sound z r.history r.stands.stands.legal) mine.0,
            held_made z (leads z v.view.seen) v.view.name o t.0 t.1 (sound z v.view.seen (legal_known k s r id v at awake))
                (subst (λ (y : Rattle.control_word.specs.State.State). Rattle.control_word.specs.State.Has
                (Rattle.control_word.specs.State.held v.view.name (handle t.0 (Some o) t.1)) y.hands) (known_as k s r id v at awake) t.2.has),
          ))
          (λ (t : Ends v o b).
          let z = opening_of k in let h = leads z r.history in let fine = sound z r.history r.stands.stands.legal in
          let e = still_ending k s r id v at awake o b t in
          let ends = e.1.phase ∙ t.1 in let there = ap (λ x. (h.object x).phase) e.0 ∙ ends in (
            ap (λ x. (h.object x).block) (sym e.0) ∙ ends_here z h b v.view.name fine there,
            subst (λ x. IsBusy h x) e.0 (ends_busy z h b v.view.name fine there),
            let last = (sound z v.view.seen (legal_known k s r id v at awake)).latest_made b in
                let same : (leads z v.view.seen).latest b ≡ o = ap (λ (y : Rattle.control_word.specs.State.State). y.latest b)
                (sym (known_as k s r id v at awake)) ∙ t.0 in omega arith,
          )) near
