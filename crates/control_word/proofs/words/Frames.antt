-- What one write of a word, and one change of a view, leave as they were.
use Rattle.std.proofs.Common.{◌≡◌, ℕ, zero, suc, ◌+◌, ◌*◌, ◌%◌, ◌<◌, ◌≤◌, ◌≢◌, ◌⊎◌, List, [], ◌∷◌}
use Rattle.std.proofs.Common.{length, get_or, set, sym, refl, ap, ◌∙◌, subst, inl, inr, ⊎_elim}
use Rattle.std.proofs.Common.{arith, length-set, get_or-set_other, get_or-set_same}
use Rattle.control_word.proofs.Prelude
use Prelude.{bit_at, block_words, blocks_of, cases_eq, cell_spot, fun_ext, get_elem?, Held}
use Prelude.{InShape, IsVacant, moved_to, NumberedHandle, Object, on_shelf, Opening, Says}
use Prelude.{shelf_spot, Shows, ShowsShelf, some, some-injective, some-ne-none, spot, State}
use Prelude.{Stored, total, unmade, weak_number}
use Rattle.control_word.proofs.history.Soundness.{IsBusy, Sound}
use Rattle.control_word.specs.State.{count, weak}
use Rattle.control_word.specs.Words.{object_words, packed}

pub spot_apart : (b k c j : ℕ) → 1 ≤ b → 1 ≤ c → k < 16 → j < 16 → spot b k ≡ spot c j → (b ≡ c) × (k ≡ j)
spot_apart b k c j hb hc hk hj e = (omega arith, omega arith)

pub spot_fits : (z : Opening) (b k : ℕ) → InShape z b → k < 16 → spot b k < 16 * z.blocks
spot_fits z b k h hk = omega arith

-- a write before the shelf leaves the shelf
pub shelf_kept : (z : Opening) (words : List ℕ) (s : State) (k n : ℕ) → k < cell_spot z z.cells → ShowsShelf z words s
    → ShowsShelf z (set words k n) s
shelf_kept z words s k n lt shows b low =
    ap (λ m. bit_at m (b % 64)) (get_or-set_other words k (shelf_spot z b) n 0 (λ e. omega arith)) ∙ shows b low

-- the other words are as they were
pub shows_write : (z : Opening) (words : List ℕ) (u f v g : ℕ → ℕ) (s t : State) (b k n : ℕ) → InShape z b → k < 16 → Shows z words u f s
    → ((c j : ℕ) → InShape z c → j < 16 → ((c ≡ b) × (j ≡ k) → ⊥) → Says z s u f c j (get_or words (spot c j) 0)
    → Says z t v g c j (get_or words (spot c j) 0))
    → Says z t v g b k n
    → ((c w : ℕ) → c < z.cells → w ≡ packed (blocks_of s) (s.cell c) + f (cell_spot z c)
    → w ≡ packed (blocks_of t) (t.cell c) + g (cell_spot z c))
    → ((c : ℕ) → on_shelf t c ≡ on_shelf s c)
    → Shows z (set words (spot b k) n) v g t
shows_write z words u f v g s t b k n hb hk shows others here free same = record {
  sized = length-set words (spot b k) n ∙ shows.sized;
  blocks = λ c j hc hj. ⊎_elim
      (λ (e : spot c j ≡ spot b k).
      let p = spot_apart c j b k hc.0 hb.0 hj hk e in
      let q : get_or (set words (spot b k) n) (spot c j) 0 ≡ n =
      ap (λ i. get_or (set words (spot b k) n) i 0) e ∙ get_or-set_same words (spot b k) n 0 (let l = spot_fits z b k hb hk in
      let m = shows.sized in omega arith) in
      subst (λ w. Says z t v g c j w) (sym q) (subst (λ x. Says z t v g x j n) (sym p.0) (subst (λ x. Says z t v g b x n) (sym p.1) here)))
      (λ (ne : spot c j ≢ spot b k).
      subst (λ w. Says z t v g c j w) (sym (get_or-set_other words (spot b k) (spot c j) n 0 ne))
      (others c j hc hj (λ p. ne (λ i. spot (p.0 i) (p.1 i))) (shows.blocks c j hc hj)))
      (cases_eq (spot c j) (spot b k));
  free = λ c hc.
      let ne : cell_spot z c ≢ spot b k = λ e. let l = spot_fits z b k hb hk in omega arith in
      get_or-set_other words (spot b k) (cell_spot z c) n 0 ne ∙ free c (get_or words (cell_spot z c) 0) hc (shows.free c hc);
  shelf = λ c lt. shelf_kept z words s (spot b k) n (let l = spot_fits z b k hb hk in omega arith) shows.shelf c lt ∙ sym (same c);
}

-- the words of an object do not tell its phase
words_phase : (block : ℕ → ℕ) (x : Object) → object_words block (moved_to unmade x) ≡ object_words block x
unfolding object_words
words_phase block x = refl

blocks_still : (f g : ℕ → Object) → ((j : ℕ) → moved_to unmade (f j) ≡ moved_to unmade (g j))
    → ◌≡◌ {A = ℕ → ℕ} (λ j. (f j).block) (λ j. (g j).block)
blocks_still f g e = fun_ext (λ j. ap (λ (x : Object). x.block) (e j))

pub words_still : (f g : ℕ → Object) (q : ℕ) → ((j : ℕ) → moved_to unmade (f j) ≡ moved_to unmade (g j))
    → object_words (λ j. (f j).block) (f q) ≡ object_words (λ j. (g j).block) (g q)
words_still f g q e =
    sym (words_phase (λ j. (f j).block) (f q)) ∙ (ap (object_words (λ j. (f j).block)) (e q) ∙ (words_phase (λ j. (f j).block) (g q) ∙ ap (λ (b : ℕ
    → ℕ). object_words b (g q)) (blocks_still f g e)))

pub packed_still : (f g : ℕ → Object) (x : NumberedHandle) → ((j : ℕ) → moved_to unmade (f j) ≡ moved_to unmade (g j))
    → packed (λ j. (f j).block) x ≡ packed (λ j. (g j).block) x
packed_still f g x e = ap (λ (b : ℕ → ℕ). packed b x) (blocks_still f g e)

-- A change of the hands and of phases, which changes one number, the owners (k 0) or the weak number (k 1) of o
module _ (z : Opening) (s : State) (hs : List Held) (f' : ℕ → Object) (o k : ℕ) (sound : Sound z s) (busy : IsBusy s o)
    (counts : (q : ℕ) → (k ≢ 0) ⊎ (q ≢ o) → count (record s { hands = hs; object = f' }) q ≡ count s q)
    (weaks : (q : ℕ) → (k ≢ 1) ⊎ (q ≢ o) → weak_number (record s { hands = hs; object = f' }) q ≡ weak_number s q)
    (still : (q : ℕ) → moved_to unmade (f' q) ≡ moved_to unmade (s.object q)) where
  latest_other : (c : ℕ) → c ≢ (s.object o).block → s.latest c ≢ o
  latest_other c n e =
      ⊎_elim (λ (zero' : o ≡ 0). let u = sound.unmade_free 0 sound.none in
      let v : weak_number s o ≡ weak_number s 0 = ap (weak_number s) zero' in omega arith)
      (λ (pos : o ≢ 0). n (sym (sound.latest_in c (λ t. pos (sym e ∙ t))) ∙ ap (λ q. (s.object q).block) e)) (cases_eq o 0)

  pub word_same : (c j : ℕ) → ((c ≡ (s.object o).block) × (j ≡ k) → ⊥)
      → get_or (block_words (record s { hands = hs; object = f' }) c) j 0 ≡ get_or (block_words s c) j 0
  word_same c zero n =
      counts (s.latest c)
      (⊎_elim (λ (e : c ≡ (s.object o).block). inl (λ t. n (e, sym t))) (λ ne. inr (latest_other c ne)) (cases_eq c (s.object o).block))
  word_same c (suc zero) n =
      weaks (s.latest c)
      (⊎_elim (λ (e : c ≡ (s.object o).block). inl (λ t. n (e, sym t))) (λ ne. inr (latest_other c ne)) (cases_eq c (s.object o).block))
  word_same c (suc (suc j)) n = ap (λ l. get_or l j 0) (words_still f' s.object (s.latest c) still)

  pub vacant_same : (c : ℕ) → IsVacant s c → IsVacant (record s { hands = hs; object = f' }) c
  vacant_same c v q e =
      let e' : (s.object q).block ≡ c = sym (ap (λ (x : Object). x.block) (still q)) ∙ e in
      ⊎_elim (λ (t : q ≡ o). let u : weak_number s o ≡ 0 = sym (ap (weak_number s) t) ∙ v q e' in absurd (omega arith))
      (λ (n : q ≢ o). weaks q (inr n)
      ∙ v q e') (cases_eq q o)

  pub shows_number : (words : List ℕ) (u f v g : ℕ → ℕ) (n : ℕ) → k < 2 → Shows z words u f s
      → ((i : ℕ) → i ≢ spot (s.object o).block k → u i ≡ v i) → ((i : ℕ) → i ≢ spot (s.object o).block k → f i ≡ g i)
      → Says z (record s { hands = hs; object = f' }) v g (s.object o).block k n
      → Shows z (set words (spot (s.object o).block k) n) v g (record s { hands = hs; object = f' })
  shows_number words u f v g n low shows same_u same_f says' =
      let b = (s.object o).block in
      let hb = (sound.placed o busy).1 in
      shows_write z words u f v g s (record s { hands = hs; object = f' }) b k n hb (omega arith) shows
      (λ c j hc hj ne says. let apart : spot c j ≢ spot b k = λ q. ne (spot_apart c j b k hc.0 hb.0 hj (omega arith) q) in
      ⊎_elim (λ l. inl (l.0, l.1, vacant_same c l.2, l.3)) (λ t. inr (let w = word_same c j ne in let x = same_u (spot c j) apart in
      let y = same_f (spot c j) apart in omega arith)) says)
      says'
      (λ c w hc t. let y = same_f (cell_spot z c) (λ q. let l = spot_fits z b k hb (omega arith) in omega arith) in
      let x = packed_still f' s.object (s.cell c) still in omega arith)
      (λ c. refl)

-- the words do not tell who has a vacant block
pub shows_stores : (z : Opening) (words : List ℕ) (u g : ℕ → ℕ) (s : State) (r : List Stored) → Shows z words u g s
    → Shows z words u g (record s { stores = r })
unfolding count weak
shows_stores z words u g s r shows = record { sized = shows.sized; blocks = shows.blocks; free = shows.free; shelf = shows.shelf }

-- sums over the views
pub total_set : {A : Type 0} (f : A → ℕ) (l : List A) (i : ℕ) (a b : A) → get_elem? l i ≡ some a → total f (set l i b) + f a ≡ total f l + f b
total_set f [] i a b e = absurd (some-ne-none a (sym e))
total_set f (x ∷ xs) zero a b e = let t = ap f (some-injective x a e) in omega arith
total_set f (x ∷ xs) (suc i) a b e = let t = total_set f xs i a b e in omega arith

pub total_none : {A : Type 0} (f : A → ℕ) (l : List A) → ((i : ℕ) (a : A) → get_elem? l i ≡ some a → f a ≡ 0) → total f l ≡ 0
total_none f [] h = refl
total_none f (x ∷ xs) h = let t = h 0 x refl in let u = total_none f xs (λ i a e. h (suc i) a e) in omega arith

pub at_inside : {A : Type 0} (l : List A) (i : ℕ) (a : A) → get_elem? l i ≡ some a → i < length l
at_inside [] i a e = absurd (some-ne-none a (sym e))
at_inside (x ∷ xs) zero a e = omega arith
at_inside (x ∷ xs) (suc i) a e = let t = at_inside xs i a e in omega arith
