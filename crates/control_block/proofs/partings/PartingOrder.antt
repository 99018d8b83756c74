-- Lists of blocks in order, and how often each is listed.
use Rattle.std.proofs.Common.{◌≡◌, ℕ, zero, suc, ◌+◌, ◌-◌, ◌<◌, ◌≤◌, true, false, cond, List, []}
use Rattle.std.proofs.Common.{◌∷◌, ◌++◌, length, get_or, take, drop, nat_lt, ◌==◌, Less, Equal}
use Rattle.std.proofs.Common.{Greater, sym, refl, ap, ◌∙◌, subst, inl, inr, ⊎_elim, arith}
use Rattle.std.proofs.Common.{length-append, length-drop, take-append-drop, lt-ltb}
use Rattle.control_block.proofs.Prelude.{Block, cases_lt, cond-true, filter, filter-append, Has}
use Rattle.control_block.proofs.Prelude.{is_lt, IsPermutation, length-filter, nat_cmp}
use Rattle.control_block.proofs.Prelude.{sum_by-IsPermutation, times}

pub times_append : (b : ℕ) (xs ys : List Block) → times b (xs ++ ys) ≡ times b xs + times b ys
times_append b xs ys =
    let p = λ (c : Block). c.0 == b in ap length (filter-append p xs ys) ∙ length-append (filter p xs) (filter p ys)

pub times_permutation : (b : ℕ) (xs ys : List Block) → IsPermutation xs ys → times b ys ≡ times b xs
times_permutation b xs ys p =
    let t = λ (c : Block). c.0 == b in
    length-filter t ys ∙ (sum_by-IsPermutation (λ c. cond (t c) 1 0) xs ys p ∙ sym (length-filter t xs))

-- a list cut in two
pub times_cut : (b n : ℕ) (l : List Block) → times b (drop n l) + times b (take n l) ≡ times b l
times_cut b n l = let t = times_append b (take n l) (drop n l) in let e = ap (times b) (take-append-drop n l) in omega arith

not_below : (x y : ℕ) → is_lt (nat_cmp x y) ≡ false → y ≤ x
not_below x y e =
    ⊎_elim
    (λ (lt : x < y). let s : is_lt (nat_cmp x y) ≡ true = ap is_lt (cond-true (nat_lt x y) Less (cond (x == y) Equal Greater) (lt-ltb x y lt)) in
    absurd (let q = sym e ∙ s in cc))
    (λ (le : y ≤ x). le) (cases_lt x y)

module _ {A : Type 0} where
  take_whole : (l : List A) (m : ℕ) → length l ≤ m → take m l ≡ l
  take_whole [] zero h = refl
  take_whole [] (suc m) h = refl
  take_whole (x ∷ l) zero h = absurd (omega arith)
  take_whole (x ∷ l) (suc m) h = ap (λ z. x ∷ z) (take_whole l m (omega arith))

  -- the end of a slice
  pub tail_is : (xs ys : List A) (n : ℕ) → xs ≡ ys → take (length xs - n) (drop n xs) ≡ drop n ys
  tail_is xs ys n e = take_whole (drop n xs) (length xs - n) (omega (arith, length-drop n xs)) ∙ ap (drop n) e

  has_drop : (x : A) (n : ℕ) (l : List A) → Has x (drop n l) → Has x l
  has_drop x zero l h = h
  has_drop x (suc n) [] h = h
  has_drop x (suc n) (y ∷ l) h = inr (has_drop x n l h)

  has_at : (x : A) (l : List A) → Has x l → (j : ℕ) × (j < length l) × ((d : A) → get_or l j d ≡ x)
  has_at x [] h = absurd h
  has_at x (y ∷ l) (inl e) = (0, omega arith, λ d. sym e)
  has_at x (y ∷ l) (inr h) = let t = has_at x l h in (suc t.0, omega (arith, t.1), λ d. t.2 d)

-- in a list that descends what stands before a cut is no less than what stands behind it
pub far : (n : ℕ) (l : List Block) → ((i j : ℕ) (d : Block) → i ≤ j → j < length l → is_lt (nat_cmp (get_or l i d).0 (get_or l j d).0) ≡ false)
    → (b c : Block) → Has b (drop n l) → Has c (take n l) → b.0 ≤ c.0
far zero l down b c hb hc = absurd hc
far (suc n) [] down b c hb hc = absurd hc
far (suc n) (x ∷ l) down b c hb (inl e) =
    let t = has_at b l (has_drop b n l hb) in
    subst (λ (y : Block). y.0 ≤ c.0) (t.2 x) (subst (λ (y : Block). (get_or l t.0 x).0 ≤ y.0) (sym e)
    (not_below x.0 (get_or l t.0 x).0 (down 0 (suc t.0) x (omega arith) (omega (arith, t.1)))))
far (suc n) (x ∷ l) down b c hb (inr h) = far n l (λ i j d le lt. down (suc i) (suc j) d (omega arith) (omega arith)) b c hb h
