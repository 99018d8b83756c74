-- Sums of numbers, and how many elements of a list pass a test.
use Rattle.std.proofs.Common.{◌≡◌, ℕ, zero, suc, ◌+◌, ◌<◌, ◌≤◌, Bool, true, false, ◌≢◌, List, []}
use Rattle.std.proofs.Common.{◌∷◌, map, length, sym, refl, ap, ◌∙◌, ⊎_elim, arith}
use Rattle.control_word.proofs.Prelude.{cases_eq, cond-false, cond-true, cond_both, filter, HasAll}
use Rattle.control_word.proofs.Prelude.{passed, put, sum_below, without}
use Rattle.control_word.proofs.lists.Tallies.{num, num_cons, num_without, put_other, put_same}

pub sum_le : (n : ℕ) (f g : ℕ → ℕ) → ((i : ℕ) → f i ≤ g i) → sum_below n f ≤ sum_below n g
sum_le zero f g le = omega arith
sum_le (suc n) f g le = let a = le n in let b = sum_le n f g le in omega arith

pub sum_plus : (n : ℕ) (f g h : ℕ → ℕ) → ((i : ℕ) → h i ≡ f i + g i)
    → sum_below n h ≡ sum_below n f + sum_below n g
sum_plus zero f g h e = omega arith
sum_plus (suc n) f g h e = let a = e n in let b = sum_plus n f g h e in omega arith

pub sum_zero : (n : ℕ) (f : ℕ → ℕ) → ((i : ℕ) → i < n → f i ≡ 0) → sum_below n f ≡ 0
sum_zero zero f e = refl
sum_zero (suc n) f e =
    let a = e n (omega arith) in let b = sum_zero n f (λ i lt. e i (omega arith)) in omega arith

-- one term changes
pub sum_put : (n i x : ℕ) (f : ℕ → ℕ)
    → (i < n → sum_below n (put f i x) + f i ≡ sum_below n f + x)
    × (n ≤ i → sum_below n (put f i x) ≡ sum_below n f)
sum_put zero i x f = ((λ lt. absurd (omega arith)), λ le. refl)
sum_put (suc n) i x f =
    let ih = sum_put n i x f in (
      (λ lt.
          ⊎_elim
          (λ (e : n ≡ i).
          let a = put_same f i x n e in
          let b = ih.1 (omega arith) in
          let c : f n ≡ f i = ap f e in omega arith)
          (λ (ne : n ≢ i). let a = put_other f i x n ne in let b = ih.0 (omega arith) in omega arith)
          (cases_eq n i)),
      (λ le. let a = put_other f i x n (λ e. omega arith) in let b = ih.1 (omega arith) in omega arith),
    )

-- a term of a sum, and two of them
pub sum_at : (n p : ℕ) (f : ℕ → ℕ) → p < n → f p ≤ sum_below n f
sum_at n p f lt = let a = (sum_put n p 0 f).0 lt in omega arith

pub sum_two : (n p q : ℕ) (f : ℕ → ℕ) → p < n → q < n → p ≢ q → f p + f q ≤ sum_below n f
sum_two n p q f lp lq ne =
    let a = (sum_put n p 0 f).0 lp in
    let b = sum_at n q (put f p 0) lq in
    let c = put_other f p 0 q (λ e. ne (sym e)) in omega arith

-- what is nowhere less, and at one place more by k, is more by k
pub sum_more : (n p k : ℕ) (f g : ℕ → ℕ) → ((i : ℕ) → f i ≤ g i) → p < n → f p + k ≤ g p
    → sum_below n f + k ≤ sum_below n g
sum_more zero p k f g le lt more = absurd (omega arith)
sum_more (suc n) p k f g le lt more =
    ⊎_elim
    (λ (e : p ≡ n). let a = ap f e in let b = ap g e in let c = sum_le n f g le in omega arith)
    (λ (ne : p ≢ n). let a = le n in let b = sum_more n p k f g le (omega arith) more in omega arith)
    (cases_eq p n)

pub sum_ones : (n : ℕ) (f : ℕ → ℕ) → ((i : ℕ) → f i ≤ 1) → sum_below n f ≤ n
sum_ones zero f low = omega arith
sum_ones (suc n) f low = let a = low n in let b = sum_ones n f low in omega arith

-- how many elements pass a test
module _ {A : Type 0} where
  pub num_le : (p r : A → Bool) (l : List A) → ((x : A) → p x ≡ true → r x ≡ true) → num p l ≤ num r l
  num_le p r [] f = omega arith
  num_le p r (x ∷ xs) f =
      let ih = num_le p r xs f in
      cond_both (p x) (x ∷ filter p xs) (filter p xs) (λ u. length u ≤ num r (x ∷ xs))
      (λ e.
      let a : num r (x ∷ xs) ≡ suc (num r xs) =
      ap length (cond-true (r x) (x ∷ filter r xs) (filter r xs) (f x e)) in omega arith)
      (λ e. let a = num_cons r x xs in omega arith)

  pub num_none : (p : A → Bool) (l : List A) → ((x : A) → p x ≡ false) → num p l ≡ 0
  num_none p [] f = refl
  num_none p (x ∷ xs) f = ap length (cond-false (p x) (x ∷ filter p xs) (filter p xs) (f x)) ∙ num_none p xs f

  pub num_length : (p : A → Bool) (l : List A) → num p l ≤ length l
  num_length p [] = omega arith
  num_length p (x ∷ xs) =
      let ih = num_length p xs in
      cond_both (p x) (x ∷ filter p xs) (filter p xs) (λ u. length u ≤ length (x ∷ xs))
      (λ e. omega arith) (λ e. omega arith)

  pub num_fewer : (same : A → A → Bool) (p : A → Bool) (x : A) (l : List A) → num p (without same x l) ≤ num p l
  num_fewer same p x [] = omega arith
  num_fewer same p x (y ∷ ys) =
      let ih = num_fewer same p x ys in
      cond_both (same x y) ys (y ∷ without same x ys) (λ u. num p u ≤ num p (y ∷ ys))
      (λ e. omega (arith, num_cons p y ys))
      (λ e. omega (arith, num_cons p y ys, num_cons p y (without same x ys)))

  -- what is passed on is counted as what it becomes
  pub num_passes : {T : Type 0} (same : A → A → Bool) → ((x y : A) → same x y ≡ true → x ≡ y)
      → ((x : A) → same x x ≡ true) → (was is : T → A) (p : A → Bool) (ts : List T) (l : List A)
      → HasAll same was ts l
      → num p (passed same was is ts l) + num p (map was ts) ≡ num p (map is ts) + num p l
  num_passes same truth self was is p [] l there = omega arith
  num_passes same truth self was is p (t ∷ ts) l there =
      let rest = without same (was t) l in
      let ih = num_passes same truth self was is p ts rest there.1 in
      omega (
        arith,
        num_cons p (is t) (passed same was is ts rest),
        num_cons p (is t) (map is ts),
        num_cons p (was t) (map was ts),
        num_without same truth self p (was t) l there.0,
      )
