-- What cells hold, one after another.
use Rattle.std.proofs.Common.{◌≡◌, ℕ, zero, suc, ◌+◌, List, [], ◌∷◌, ◌++◌, sym, ap, ◌∙◌, arith}
use Rattle.leak_report.proofs.Prelude.{flat_map, flat_map-append, from, join, nil_right}

-- the last of some numbers comes last
pub from-suc : (b n : ℕ) → from b (suc n) ≡ from b n ++ (b + n) ∷ []
from-suc b zero = let e : b ≡ b + 0 = omega arith in ap (λ (k : ℕ). k ∷ []) e
from-suc b (suc n) =
    let e : suc b + n ≡ b + suc n = omega arith in
    ap (λ (l : List ℕ). b ∷ l) (from-suc (suc b) n ∙ ap (λ (k : ℕ). from (suc b) n ++ k ∷ []) e)

-- one more
pub one_more : {A : Type 0} → (f : ℕ → List A) (b n k : ℕ) (start so_far next : List A) → k ≡ b + n
    → so_far ≡ start ++ flat_map f (from b n) → next ≡ so_far ++ f k → next ≡ start ++ flat_map f (from b (n + 1))
one_more f b n k start so_far next is p q =
    let e : suc n ≡ n + 1 = omega arith in
    q ∙ ap (λ l. l ++ f k) p ∙ join start (flat_map f (from b n)) (f k)
    ∙ ap (λ i. start ++ (flat_map f (from b n) ++ f i)) is
    ∙ ap (λ l. start ++ l) (last ∙ ap (λ i. flat_map f (from b i)) e)
  where
    last : flat_map f (from b n) ++ f (b + n) ≡ flat_map f (from b (suc n))
    last =
        sym (ap (flat_map f) (from-suc b n) ∙ flat_map-append f (from b n) ((b + n) ∷ []) ∙ ap (λ l. flat_map f (from b n) ++ l) (nil_right (f (b + n))))
