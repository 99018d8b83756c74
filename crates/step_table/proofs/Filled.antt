-- Lists of words of which only a beginning is filled, with others behind.
use Rattle.std.proofs.Common.{◌≡◌, ℕ, ◌+◌, ◌-◌, ◌<◌, ◌≤◌, List, [], ◌++◌, length, set, replicate}
use Rattle.std.proofs.Common.{sym, ap, ◌∙◌, append_assoc, arith, length-append, length-set}
use Rattle.step_table.proofs.Prelude.{padded}
use Rattle.std.proofs.lemmas.List.{length-replicate, replicate-append-replicate, set-append_left}
use Rattle.std.proofs.lemmas.List.{set-append_right}

padded_length : (n : ℕ) (words : List ℕ) → length words ≤ n → length (padded n words) ≡ n
padded_length n words le =
    let a = length-append words (replicate (n - length words) 0) in
    let b = length-replicate {A = ℕ} (n - length words) 0 in
    omega (arith, a, b, le)

-- nothing is filled
pub none_filled : (n m : ℕ) (behind : List ℕ) → m ≤ n → behind ≡ replicate (n - m) 0 → padded m [] ++ behind ≡ replicate n 0
none_filled n m behind le is =
    let sum : m + (n - m) ≡ n = omega (arith, le) in
    let whole : m - 0 ≡ m = omega arith in
    ap (λ (j : ℕ). replicate j 0 ++ behind) whole ∙ ap (λ (l : List ℕ). replicate m 0 ++ l) is
    ∙ replicate-append-replicate m (n - m) 0 ∙ ap (λ (j : ℕ). replicate j 0) sum

-- a word is written that is filled, or one behind
module _ (n : ℕ) (words behind all : List ℕ) (few : length words ≤ n) (is : padded n words ++ behind ≡ all) (i y : ℕ) where
  pub filled_set : i < length words → padded n (set words i y) ++ behind ≡ set all i y
  filled_set lt =
      let l = padded_length n words few in
      ap (λ (m : ℕ). (set words i y ++ replicate (n - m) 0) ++ behind) (length-set words i y)
      ∙ ap (λ (l : List ℕ). l ++ behind) (sym (set-append_left words (replicate (n - length words) 0) i y lt))
      ∙ sym (set-append_left (padded n words) behind i y (omega (arith, l, lt, few)))
      ∙ ap (λ (l : List ℕ). set l i y) is

  pub behind_set : n ≤ i → padded n words ++ set behind (i - n) y ≡ set all i y
  behind_set le =
      sym (set-append_right (padded n words) behind n i y (padded_length n words few) le) ∙ ap (λ (l : List ℕ). set l i y) is

-- more words are filled
pub more_filled : (n m : ℕ) (words new : List ℕ) → length words ≤ m → m ≤ n → new ≡ words ++ replicate (m - length words) 0
    → padded n new ≡ padded n words
more_filled n m words new le most grown =
    let k = m - length words in
    let a = length-append words (replicate k 0) in
    let b = length-replicate {A = ℕ} k 0 in
    let long : length (words ++ replicate k 0) ≡ m = omega (arith, a, b, le) in
    let sum : k + (n - m) ≡ n - length words = omega (arith, le, most) in
    let tail : replicate k 0 ++ replicate (n - m) 0 ≡ replicate (n - length words) 0 =
    replicate-append-replicate k (n - m) 0 ∙ ap (λ (j : ℕ). replicate j 0) sum in
    let same : padded n (words ++ replicate k 0) ≡ padded n words =
    ap (λ (j : ℕ). (words ++ replicate k 0) ++ replicate (n - j) 0) long
    ∙ append_assoc words (replicate k 0) (replicate (n - m) 0) ∙ ap (λ (l : List ℕ). words ++ l) tail in
    ap (padded n) grown ∙ same
