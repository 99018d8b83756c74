-- Stores of blocks, as tallies.
use Rattle.std.proofs.Common.{◌≡◌, ℕ, zero, suc, ◌+◌, ◌-◌, ◌≤◌, Bool, List, [], ◌∷◌, length, ◌==◌}
use Rattle.std.proofs.Common.{refl, ap, ◌∙◌, inl, inr, arith, eq-eqb}
use Rattle.control_block.proofs.Prelude.{cond-false, cond-true, cond_both, filter, Has, how_often}
use Rattle.control_block.proofs.Prelude.{num_cons, Opening, part_has, Sound, State, stock, Stored}
use Rattle.control_block.proofs.Prelude.{sum_at, sum_below}
use Rattle.control_word.proofs.lists.Sums.{sum_le}

-- a list of blocks from 1 to n is no longer than the tallies of these
sum_sum : (n : ℕ) (f g : ℕ → ℕ) → sum_below n (λ i. f i + g i) ≡ sum_below n f + sum_below n g
sum_sum zero f g = omega arith
sum_sum (suc n) f g = let t = sum_sum n f g in omega arith

covered : (n : ℕ) (l : List Stored) → ((x : Stored) → Has x l → (1 ≤ x.block) × (x.block ≤ n))
    → length l ≤ sum_below n (λ i. how_often (suc i) l)
covered n [] inside = omega arith
covered n (x ∷ l) inside =
    let t = covered n l (λ y h. inside y (inr h)) in
    let f : ℕ → ℕ = λ i. how_often (suc i) (x ∷ []) in let g : ℕ → ℕ = λ i. how_often (suc i) l in
    let e : sum_below n (λ i. how_often (suc i) (x ∷ l)) ≡ sum_below n (λ i. f i + g i) =
    ap (sum_below n) (λ j i. num_cons (λ (y : Stored). y.block == suc i) x l j) in
    let s = sum_sum n f g in
    let w = inside x (inl refl) in
    let m = sum_at n (x.block - 1) f (omega arith) in
    let b : suc (x.block - 1) ≡ x.block = omega arith in
    let one : f (x.block - 1) ≡ 1 =
    ap (λ i. how_often i (x ∷ [])) b ∙ ap length (cond-true (x.block == x.block) (x ∷ []) [] (eq-eqb x.block x.block refl)) in
    omega arith

ones : (n : ℕ) → sum_below n (λ i. 1) ≡ n
ones zero = refl
ones (suc n) = let t = ones n in omega arith

filter_less : (p q : Stored → Bool) (l : List Stored) → length (filter p (filter q l)) ≤ length (filter p l)
filter_less p q [] = omega arith
filter_less p q (x ∷ l) =
    let t = filter_less p q l in
    cond_both (q x) (x ∷ filter q l) (filter q l) (λ r. length (filter p r) ≤ length (filter p (x ∷ l)))
    (λ e. cond_both (p x) (x ∷ filter p (filter q l)) (filter p (filter q l)) (λ r. length r ≤ length (filter p (x ∷ l)))
    (λ f. let u : length (filter p (x ∷ l)) ≡ suc (length (filter p l)) = ap length (cond-true (p x) (x ∷ filter p l) (filter p l) f) in omega arith)
    (λ f. let u : length (filter p (x ∷ l)) ≡ length (filter p l) = ap length (cond-false (p x) (x ∷ filter p l) (filter p l) f) in omega arith))
    (λ e. cond_both (p x) (x ∷ filter p l) (filter p l) (λ r. length (filter p (filter q l)) ≤ length r) (λ f. omega arith) (λ f. t))

-- a desk has no more vacant blocks than there are
pub stock_few : (z : Opening) (s : State) (d : ℕ) → Sound z s → length (stock s d) ≤ z.blocks
stock_few z s d fine =
    let t = covered z.blocks (stock s d) (λ x h. let u = part_has (λ (y : Stored). y.desk) d x s.stores h in
    let v = (fine.stores x.desk x.block u.0).1 in v) in
    let u = sum_le z.blocks (λ i. how_often (suc i) (stock s d)) (λ i. 1)
    (λ i. let a = filter_less (λ (x : Stored). x.block == suc i) (λ x. x.desk == d) s.stores in let b = fine.once (suc i) in omega arith) in
    let v = ones z.blocks in omega arith
