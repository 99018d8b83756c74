-- The flags and fields of a block.
use Rattle.std.proofs.Common.{◌≡◌, ℕ, zero, suc, ◌+◌, ◌-◌, ◌<◌, ◌≤◌, ◌≢◌, List, ◌∷◌, get_or}
use Rattle.std.proofs.Common.{slice_index, refl, ap, ◌∙◌, ⊎_elim, arith, ne_eqb}
use Rattle.control_word.proofs.Prelude
use Prelude.{added, adds, block_words, blocks_of, cond-false, Entry, Fits, flags_of, Idle, InShape}
use Prelude.{leads, Making, Merging, more, Object, Opening, owed, owes, Parting, Paying, pays}
use Prelude.{Pending, slot, spot, Stands, value, View, Visiting, weak_number}
use Rattle.control_word.proofs.history.Legal.{held_busy, sound}
use Rattle.control_word.proofs.history.Soundness.{IsBusy}
use Rattle.control_word.proofs.words.Banks.{bank_none}
use Rattle.control_word.proofs.words.Counting.{none_of}
use Rattle.control_word.proofs.words.Frames.{spot_apart}
use Rattle.control_word.proofs.words.Funds.{slot_low}
use Rattle.control_word.specs.State.{count}
use Rattle.control_word.specs.Words.{object_words}

-- the fields of an object among its words
pub words_field : (f : ℕ → ℕ) (x : Object) (j : ℕ) → j < 4 → get_or (object_words f x) (1 + j) 0 ≡ slice_index x.fields j
unfolding object_words
words_field f x zero lt = refl
words_field f x (suc zero) lt = refl
words_field f x (suc (suc zero)) lt = refl
words_field f x (suc (suc (suc zero))) lt = refl
words_field f x (suc (suc (suc (suc j)))) lt = absurd (omega arith)

pub words_flags : (f : ℕ → ℕ) (x : Object) → get_or (object_words f x) 0 0 ≡ flags_of x.enabled x.null
unfolding object_words
words_flags f x = refl

module _ {V : Type 0} where
  module _ (z : Opening) (words : List ℕ) (views : List (View V)) (h : List (Entry V)) (stands : Stands z words views h) where
    body_owes : (b k : ℕ) → InShape z b → 2 ≤ k → k < 7 → (d : ℕ) (p : Pending V) → Fits words (leads z h) (value z h) d p
        → (owes p (spot b k) ≡ 0) × (pays p (spot b k) ≡ 0)
    body_owes b k hb lo hi d Idle f = (refl, refl)
    body_owes b k hb lo hi d (Making c known) f = (refl, refl)
    body_owes b k hb lo hi d (Visiting o p w x) f = (refl, refl)
    body_owes b k hb lo hi d (Parting to) f = (refl, refl)
    body_owes b k hb lo hi d (Merging other x y) f = (refl, refl)
    body_owes b k hb lo hi d (Paying m o p w funds loads) f =
        let s = leads z h in
        let fine = sound z h stands.legal in
        let place = (fine.placed o (held_busy z s d o m p fine f.0)).1 in
        let low = slot_low m in
        let apart : spot b k ≢ w = λ e. let t = spot_apart b k (s.object o).block (slot m) hb.0 place.0 (omega arith) (omega arith)
        (e ∙ f.1) in omega arith in
        (cond-false _ loads 0 (ne_eqb (spot b k) w apart), cond-false _ funds 0 (ne_eqb (spot b k) w apart))

    field_adds : (b k : ℕ) → InShape z b → 2 < k → k < 7 → (d : ℕ) (p : Pending V) → Fits words (leads z h) (value z h) d p
        → adds p (spot b k) ≡ 0
    field_adds b k hb lo hi d Idle f = refl
    field_adds b k hb lo hi d (Paying m o p w funds loads) f = refl
    field_adds b k hb lo hi d (Parting to) f = refl
    field_adds b k hb lo hi d (Merging other x y) f = refl
    field_adds b k hb lo hi d (Making c known) f = cond-false _ 1 0 (ne_eqb (spot b k) (spot c.0 1) (λ e. omega arith))
    field_adds b k hb lo hi d (Visiting o p w x) f = cond-false _ 4 0 (ne_eqb (spot b k) w (λ e. let t = e ∙ f.1 in omega arith))

    -- nothing is owed to the flags and fields of a block, and nothing but a shut door is on them besides
    pub body_more : (b k : ℕ) → InShape z b → 2 ≤ k → k < 7
        → (owed views (spot b k) ≡ 0) × (more z (leads z h) views stands.taken (spot b k) ≡ added views (spot b k))
        × (2 < k → added views (spot b k) ≡ 0)
    body_more b k hb lo hi =
        let s = leads z h in
        let fine = sound z h stands.legal in
        let a = none_of z words views h stands (λ p. owes p (spot b k)) refl (λ d p f. (body_owes b k hb lo hi d p f).0) in
        let c = none_of z words views h stands (λ p. pays p (spot b k)) refl (λ d p f. (body_owes b k hb lo hi d p f).1) in
        let g = bank_none z s fine stands.taken (spot b k) (λ m o busy e. let p = fine.placed o busy in let l = slot_low m in
        let t = spot_apart b k (s.object o).block (slot m) hb.0 p.1.0 (omega arith) (omega arith) e in omega arith) in
        let t = stands.blank b k hb hi in
        (a, omega arith, λ l. none_of z words views h stands (λ p. adds p (spot b k)) refl (λ d p f. field_adds b k hb l hi d p f))

    -- what the flags and fields of a busy object's block are
    pub body_read : (o k : ℕ) → IsBusy (leads z h) o → 2 ≤ k → k < 7 → let b = ((leads z h).object o).block in
        get_or words (spot b k) 0 ≡ get_or (object_words (blocks_of (leads z h)) ((leads z h).object o)) (k - 2) 0 + added views (spot b k)
    body_read o k busy lo hi =
        let s = leads z h in
        let fine = sound z h stands.legal in
        let p = fine.placed o busy in
        let b = (s.object o).block in
        let m = body_more b k p.1 lo hi in
        let m0 = m.0 in let m1 = m.1 in
        let same : get_or (block_words s b) k 0 ≡ get_or (object_words (blocks_of s) (s.object o)) (k - 2) 0 =
        let e : k ≡ 2 + (k - 2) = omega arith in
        ap (λ j. get_or (block_words s b) j 0) e ∙ two (k - 2) (s.latest b) o p.0 in
        ⊎_elim (λ l. absurd (let t = l.2 o refl in omega arith)) (λ e. omega arith) (stands.shows.blocks b k p.1 (omega arith))
      where
        two : (j q o : ℕ) → q ≡ o
            → get_or (count (leads z h) q ∷ weak_number (leads z h) q ∷ object_words (blocks_of (leads z h)) ((leads z h).object q)) (2 + j) 0
            ≡ get_or (object_words (blocks_of (leads z h)) ((leads z h).object o)) j 0
        two j q o e = get_two (count (leads z h) q) (weak_number (leads z h) q) (object_words (blocks_of (leads z h)) ((leads z h).object q)) j
            ∙ ap (λ n. get_or (object_words (blocks_of (leads z h)) ((leads z h).object n)) j 0) e
          where
            get_two : (x y : ℕ) (l : List ℕ) (j : ℕ) → get_or (x ∷ y ∷ l) (2 + j) 0 ≡ get_or l j 0
            get_two x y l j = let e : 2 + j ≡ suc (suc j) = omega arith in ap (λ n. get_or (x ∷ y ∷ l) n 0) e
