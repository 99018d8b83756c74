-- What a swap of a cell makes of the words.
use Rattle.std.proofs.Common.{◌≡◌, ℕ, zero, suc, ◌+◌, ◌<◌, ◌≢◌, get_or, sym, refl, ap, ◌∙◌, ⊎_elim}
use Rattle.std.proofs.Common.{arith}
use Rattle.control_word.proofs.Prelude.{block_words, blocks_of, cases_eq, Cell, common, empty}
use Rattle.control_word.proofs.Prelude.{Free, fun_ext, InHand, IsVacant, Kind, kind_of, Member}
use Rattle.control_word.proofs.Prelude.{NumberedHandle, Object, Opening, put, State, swaps}
use Rattle.control_word.proofs.Prelude.{weak_number}
use Rattle.control_word.proofs.history.Cells.{swap_count, swap_weak}
use Rattle.control_word.proofs.history.Soundness.{Sound}
use Rattle.control_word.proofs.lists.Tallies.{put_cases, put_other}
use Rattle.control_word.proofs.words.Banks.{IsKept}
use Rattle.control_word.proofs.words.Listed.{listed_at, listed_same, words_high}
use Rattle.control_word.proofs.words.Payments.{kept_in}
use Rattle.control_word.specs.Words.{object_words, packed}
use Rattle.control_word.specs.Limits.{most_members}

pub packed_empty : (f : ℕ → ℕ) (k : Kind) → packed f (empty k) ≡ 0
unfolding packed
packed_empty f k = refl

-- the word of a member among the words of its block
pub member_word : (s : State) (b o m : ℕ) → m < most_members → s.latest b ≡ o
    → get_or (block_words s b) (7 + m) 0 ≡ packed (blocks_of s) ((s.object o).member m)
member_word s b o m lt e =
    let seven : 7 + m ≡ suc (suc (suc (suc (suc (suc (suc m)))))) = omega arith in
    ap (λ j. get_or (block_words s b) j 0) seven
    ∙ (words_high (blocks_of s) (s.object (s.latest b)) m
    ∙ (listed_at most_members (λ i. packed (blocks_of s) ((s.object (s.latest b)).member i)) m lt
    ∙ ap (λ n. packed (blocks_of s) ((s.object n).member m)) e))

-- the other words of an object of which one member changed
words_member : (f : ℕ → ℕ) (x : Object) (m : ℕ) (h : NumberedHandle) (j : ℕ) → j ≢ 5 + m
    → get_or (object_words f (record x { member = put x.member m h })) j 0 ≡ get_or (object_words f x) j 0
unfolding object_words
words_member f x m h zero n = refl
words_member f x m h (suc zero) n = refl
words_member f x m h (suc (suc zero)) n = refl
words_member f x m h (suc (suc (suc zero))) n = refl
words_member f x m h (suc (suc (suc (suc zero)))) n = refl
words_member f x m h (suc (suc (suc (suc (suc j))))) n =
    listed_same most_members (λ i. packed f (put x.member m h i)) (λ i. packed f (x.member i)) j
    (ap (packed f) (put_other x.member m h j (λ e. n (omega arith))))

module _ (z : Opening) (s : State) (sound : Sound z s) (d : ℕ) (new : NumberedHandle) where
  -- in a free cell
  module _ (c : ℕ) (open' : c < s.cells) (hand : InHand s d (kind_of s (Free c)) new) where
    pub free_words : (b j : ℕ) → get_or (block_words (swaps d (Free c) new (s.cell c) s) b) j 0 ≡ get_or (block_words s b) j 0
    free_words b zero = swap_count s d (Free c) new open' hand (s.latest b)
    free_words b (suc zero) = ap (λ n. n + common (s.object (s.latest b)).phase) (swap_weak s d (Free c) new open' hand (s.latest b))
    free_words b (suc (suc j)) = refl

    pub free_vacant : (b : ℕ) → IsVacant s b → IsVacant (swaps d (Free c) new (s.cell c) s) b
    free_vacant b v q e = ap (λ n. n + common (s.object q).phase) (swap_weak s d (Free c) new open' hand q) ∙ v q e

  -- in a member
  module _ (o m : ℕ) (open' : IsKept s (Member o m)) (hand : InHand s d (kind_of s (Member o m)) new) where
    changed : Object
    changed = record (s.object o) { member = put (s.object o).member m new }

    member_still : (q : ℕ) → ((put s.object o (record (s.object o) { member = put (s.object o).member m new }) q).block ≡ (s.object q).block)
        × ((put s.object o (record (s.object o) { member = put (s.object o).member m new }) q).phase ≡ (s.object q).phase)
    member_still q = put_cases (λ j y. (y.block ≡ (s.object j).block)
        × (y.phase ≡ (s.object j).phase)) s.object o (record (s.object o) { member = put (s.object o).member m new }) q
        (λ e. (ap (λ n. (s.object n).block) (sym e), ap (λ n. (s.object n).phase) (sym e))) (λ n. (refl, refl))

    pub member_blocks : blocks_of (swaps d (Member o m) new ((s.object o).member m) s) ≡ blocks_of s
    member_blocks = fun_ext (λ q. (member_still q).0)

    member_weak : (q : ℕ) → weak_number (swaps d (Member o m) new ((s.object o).member m) s) q ≡ weak_number s q
    member_weak q =
        let a = swap_weak s d (Member o m) new (kept_in z s (Member o m) sound open') hand q in let b = ap common (member_still q).1 in omega arith

    pub member_vacant : (b : ℕ) → IsVacant s b → IsVacant (swaps d (Member o m) new ((s.object o).member m) s) b
    member_vacant b v q e = member_weak q ∙ v q (sym (member_still q).0 ∙ e)

    pub member_words : (b j : ℕ) → ((b ≡ (s.object o).block) × (j ≡ 7 + m) → ⊥)
        → get_or (block_words (swaps d (Member o m) new ((s.object o).member m) s) b) j 0 ≡ get_or (block_words s b) j 0
    member_words b zero n = swap_count s d (Member o m) new (kept_in z s (Member o m) sound open') hand (s.latest b)
    member_words b (suc zero) n = member_weak (s.latest b)
    member_words b (suc (suc j)) n =
        let t = swaps d (Member o m) new ((s.object o).member m) s in
        let x = record (s.object o) { member = put (s.object o).member m new } in
        let busy = open'.1 in
        ap (λ (f : ℕ → ℕ). get_or (object_words f (put s.object o x (s.latest b))) j 0) member_blocks
        ∙ put_cases (λ q y. q ≡ s.latest b
        → get_or (object_words (blocks_of s) y) j 0 ≡ get_or (object_words (blocks_of s) (s.object q)) j 0) s.object o x (s.latest b)
        (λ e e2. words_member (blocks_of s) (s.object o) m new j (λ u. n (
          ⊎_elim (λ (y : s.latest b ≡ 0). let w = ap (weak_number s) (sym e ∙ y) in let none = sound.unmade_free 0 sound.none in absurd (omega arith))
              (λ y. sym (sound.latest_in b y) ∙ ap (λ q. (s.object q).block) e) (cases_eq (s.latest b) 0),
          omega arith,
        )) ∙ ap (λ q. get_or (object_words (blocks_of s) (s.object q)) j 0) (sym e)) (λ ne e2. refl) refl

-- a swap leaves the blocks
pub swap_blocks : (s : State) (d : ℕ) (c : Cell) (new old : NumberedHandle) → blocks_of (swaps d c new old s) ≡ blocks_of s
swap_blocks s d (Free c) new old = refl
swap_blocks s d (Member o m) new old = fun_ext (λ q. put_cases
    (λ j y. y.block ≡ (s.object j).block) s.object o (record (s.object o) { member = put (s.object o).member m new }) q
    (λ e. ap (λ n. (s.object n).block) (sym e)) (λ n. refl))
