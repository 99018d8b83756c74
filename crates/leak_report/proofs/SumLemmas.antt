-- A sum that goes by way of a function is the sum of what it comes to.
use Rattle.std.proofs.Common.{◌≡◌, ℕ, zero, suc, ◌+◌, ◌<◌, Bool, cond, ◌≢◌, ◌==◌, refl, sym, ap}
use Rattle.std.proofs.Common.{◌∙◌, ⊎_elim, arith, eq-eqb, ne_eqb}
use Rattle.leak_report.proofs.Prelude.{cases_eq, cond-false, cond-true, sum_below}
use Rattle.std.proofs.lemmas.Bool.{cond_both}
use Rattle.control_word.proofs.lists.Sums.{sum_plus, sum_zero}

pub sum_same : (n : ℕ) (f g : ℕ → ℕ) → ((i : ℕ) → i < n → f i ≡ g i) → sum_below n f ≡ sum_below n g
sum_same zero f g e = refl
sum_same (suc n) f g e = let a = e n (omega arith) in let b = sum_same n f g (λ i lt. e i (omega arith)) in omega (arith, a, b)

-- one term, where all others are 0
sum_only : (n p : ℕ) (f : ℕ → ℕ) → p < n → ((i : ℕ) → i < n → i ≢ p → f i ≡ 0) → sum_below n f ≡ f p
sum_only zero p f lt none = absurd (omega (arith, lt))
sum_only (suc n) p f lt none =
    ⊎_elim
    (λ (e : n ≡ p). let a = ap f e in let b = sum_zero n f (λ i le. none i (omega arith) (λ is. omega arith)) in omega (arith, a, b))
    (λ (ne : n ≢ p).
    let a = none n (omega arith) ne in let b = sum_only n p f (omega arith) (λ i le. none i (omega arith)) in omega (arith, a, b))
    (cases_eq n p)

-- a sum of sums may be taken the other way round
sum_swap : (n m : ℕ) (f : ℕ → ℕ → ℕ) → sum_below n (λ i. sum_below m (f i)) ≡ sum_below m (λ j. sum_below n (λ i. f i j))
sum_swap zero m f = sym (sum_zero m (λ j. 0) (λ j lt. refl))
sum_swap (suc n) m f =
    let a = sum_swap n m f in
    let b = sum_plus m (f n) (λ j. sum_below n (λ i. f i j)) (λ j. f n j + sum_below n (λ i. f i j)) (λ j. refl) in
    omega (arith, a, b)

-- what t is at j, where i leads there
abbrev at : (ℕ → ℕ) → (ℕ → ℕ) → ℕ → ℕ → ℕ
at t l i j = cond (l i == j) (t j) 0

row : (m : ℕ) (t l : ℕ → ℕ) (i : ℕ) → l i < m → sum_below m (at t l i) ≡ t (l i)
row m t l i lt =
    sum_only m (l i) (at t l i) lt (λ j le ne. cond-false (l i == j) (t j) 0 (ne_eqb (l i) j (λ e. ne (sym e))))
    ∙ cond-true (l i == l i) (t (l i)) 0 (eq-eqb (l i) (l i) refl)

-- just one of the first n leads to j
pub record IsOnly (n : ℕ) (l : ℕ → ℕ) (j i : ℕ) : Type 0 where
  pub within : i < n
  pub leads : l i ≡ j
  pub only : (k : ℕ) → k < n → l k ≡ j → k ≡ i

either_zero : (b : Bool) (x : ℕ) → x ≡ 0 → cond b x 0 ≡ 0
either_zero b x e = cond_both b x 0 (λ y. y ≡ 0) (λ t. e) (λ f. refl)

column : (n : ℕ) (t l : ℕ → ℕ) (j : ℕ) → (t j ≢ 0 → (i : ℕ) × IsOnly n l j i) → sum_below n (λ i. at t l i j) ≡ t j
column n t l j one =
    ⊎_elim (λ (e : t j ≡ 0). sum_zero n (λ i. at t l i j) (λ i lt. either_zero (l i == j) (t j) e) ∙ sym e)
    (λ (ne : t j ≢ 0).
    let r = one ne in
    let i = r.0 in
    sum_only n i (λ k. at t l k j) r.1.within
    (λ k lt no. cond-false (l k == j) (t j) 0 (ne_eqb (l k) j (λ e. no (r.1.only k lt e))))
    ∙ cond-true (l i == j) (t j) 0 (eq-eqb (l i) j r.1.leads))
    (cases_eq (t j) 0)

-- each term that isn't 0 is come to just once
pub sum_by_way : (n m : ℕ) (t l : ℕ → ℕ) → ((i : ℕ) → i < n → l i < m)
    → ((j : ℕ) → j < m → t j ≢ 0 → (i : ℕ) × IsOnly n l j i) → sum_below n (λ i. t (l i)) ≡ sum_below m t
sum_by_way n m t l inside one =
    sym (sum_same n (λ i. sum_below m (at t l i)) (λ i. t (l i)) (λ i lt. row m t l i (inside i lt)))
    ∙ sum_swap n m (at t l)
    ∙ sum_same m (λ j. sum_below n (λ i. at t l i j)) t (λ j lt. column n t l j (one j lt))
