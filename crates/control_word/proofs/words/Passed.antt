-- What a split and a join leave of the words.
use Rattle.std.proofs.Common.{◌≡◌, ℕ, zero, suc, ◌+◌, false, List, map, get_or, set, refl, ap, ◌∙◌}
use Rattle.std.proofs.Common.{arith}
use Rattle.control_word.proofs.Prelude
use Prelude.{added, adds, Block, block_words, common, Entry, get_elem?, HasAll, Held, held, is_on}
use Prelude.{IsVacant, joins_up, Kind, NumberedHandle, Opening, owed, owes, Owner, paid, passed}
use Prelude.{pays, renamed, same_held, some, splits_off, Stands, State, View, Weak}
use Rattle.control_word.proofs.history.Passing.{handed_common, hands_count, hands_weak, num_passed}
use Rattle.control_word.proofs.lists.Tallies.{held_self, held_true, num, num_map}
use Rattle.control_word.proofs.words.Frames.{total_set}
use Rattle.control_word.specs.State.{count, weak}
use Rattle.control_word.specs.Words.{bank, object_words}

-- what a split and a join leave of the counts
module _ (s : State) where
  split_held : (d to : ℕ) (hs : List NumberedHandle) → HasAll same_held (λ (h : NumberedHandle). held d h) hs s.hands → (k : Kind) (q : ℕ)
      → num (λ (x : Held). is_on k q x.handle) (passed same_held (λ (h : NumberedHandle). held d h) (λ h. held to h) hs s.hands) ≡ num
      (λ (x : Held). is_on k q x.handle) s.hands
  split_held d to hs has k q = num_passed same_held held_true held_self (λ (h : NumberedHandle). held d h) (λ h. held to h) (λ (x : Held). is_on k q x.handle)
      (λ u. refl) hs s.hands has

  split_count : (d to n : ℕ) (hs : List NumberedHandle) (bs : List Block) → HasAll same_held (λ (h : NumberedHandle). held d h) hs s.hands → (q : ℕ)
      → count (splits_off d to n hs bs s) q ≡ count s q
  unfolding count
  split_count d to n hs bs has q = hands_count s (passed same_held (λ (h : NumberedHandle). held d h) (λ h. held to h) hs s.hands) q
      (split_held d to hs has Owner q)

  split_weak : (d to n : ℕ) (hs : List NumberedHandle) (bs : List Block) → HasAll same_held (λ (h : NumberedHandle). held d h) hs s.hands → (q : ℕ)
      → weak (splits_off d to n hs bs s) q ≡ weak s q
  unfolding weak
  split_weak d to n hs bs has q = hands_weak s (passed same_held (λ (h : NumberedHandle). held d h) (λ h. held to h) hs s.hands) q
      (split_held d to hs has Weak q)

  join_held : (d e : ℕ) (k : Kind) (q : ℕ)
      → num (λ (x : Held). is_on k q x.handle) (map (λ (x : Held). held (renamed e d x.desk) x.handle) s.hands)
      ≡ num (λ (x : Held). is_on k q x.handle) s.hands
  join_held d e k q = num_map (λ (x : Held). is_on k q x.handle) (λ (x : Held). held (renamed e d x.desk) x.handle) s.hands

  join_count : (d e q : ℕ) → count (joins_up d e s) q ≡ count s q
  unfolding count
  join_count d e q = hands_count s (map (λ (x : Held). held (renamed e d x.desk) x.handle) s.hands) q (join_held d e Owner q)

  join_weak : (d e q : ℕ) → weak (joins_up d e s) q ≡ weak s q
  unfolding weak
  join_weak d e q = hands_weak s (map (λ (x : Held). held (renamed e d x.desk) x.handle) s.hands) q (join_held d e Weak q)

  -- what a block's words say, after both
  pub split_words : (d to n : ℕ) (hs : List NumberedHandle) (bs : List Block) → HasAll same_held (λ (h : NumberedHandle). held d h) hs s.hands → (b j : ℕ)
      → get_or (block_words (splits_off d to n hs bs s) b) j 0 ≡ get_or (block_words s b) j 0
  split_words d to n hs bs has b zero = split_count d to n hs bs has (s.latest b)
  split_words d to n hs bs has b (suc zero) = ap (λ m. m + common (s.object (s.latest b)).phase) (split_weak d to n hs bs has (s.latest b))
  split_words d to n hs bs has b (suc (suc j)) = refl

  pub join_words : (d e b j : ℕ) → get_or (block_words (joins_up d e s) b) j 0 ≡ get_or (block_words s b) j 0
  unfolding object_words
  join_words d e b zero = join_count d e (s.latest b)
  join_words d e b (suc zero) = let t = join_weak d e (s.latest b) in let u = handed_common e d (s.object (s.latest b)).phase in omega arith
  join_words d e b (suc (suc j)) = refl

  pub split_vacant : (d to n : ℕ) (hs : List NumberedHandle) (bs : List Block) → HasAll same_held (λ (h : NumberedHandle). held d h) hs s.hands
      → (b : ℕ) → IsVacant s b
      → IsVacant (splits_off d to n hs bs s) b
  split_vacant d to n hs bs has b v q e = ap (λ m. m + common (s.object q).phase) (split_weak d to n hs bs has q) ∙ v q e

  pub join_vacant : (d e b : ℕ) → IsVacant s b → IsVacant (joins_up d e s) b
  join_vacant d e b v q f = let t = join_weak d e q in let u = handed_common e d (s.object q).phase in let w = v q f in omega arith

  pub split_bank : (z : Opening) (d to n : ℕ) (hs : List NumberedHandle) (bs : List Block) (taken : ℕ → ℕ) (i : ℕ)
      → bank z (splits_off d to n hs bs s) taken i ≡ bank z s taken i
  unfolding bank
  split_bank z d to n hs bs taken i = refl

  pub join_bank : (z : Opening) (d e : ℕ) (taken : ℕ → ℕ) (i : ℕ) → bank z (joins_up d e s) taken i ≡ bank z s taken i
  unfolding bank
  join_bank z d e taken i = refl

module _ {V : Type 0} where
  module _ (z : Opening) (words : List ℕ) (views : List (View V)) (h : List (Entry V)) (stands : Stands z words views h)
      (i : ℕ) (v : View V) (at : get_elem? views i ≡ some v) (awake : v.spent ≡ false) where
    -- a change of one view that adds, pays and owes as before
    pub same_sums : (w : View V) → ((m : ℕ) → owes v.pending m ≡ owes w.pending m)
        → ((m : ℕ) → pays v.pending m ≡ pays w.pending m) → ((m : ℕ)
        → adds v.pending m ≡ adds w.pending m)
        → (m : ℕ) → (owed (set views i w) m ≡ owed views m) × (paid (set views i w) m ≡ paid views m) × (added (set views i w) m ≡ added views m)
    same_sums w a b c m =
        let x = total_set (λ (y : View V). owes y.pending m) views i v w at in let y = total_set (λ (y : View V). pays y.pending m) views i v w at in
        let t = total_set (λ (y : View V). adds y.pending m) views i v w at in
        let x0 = a m in let y0 = b m in let t0 = c m in (omega arith, omega arith, omega arith)
