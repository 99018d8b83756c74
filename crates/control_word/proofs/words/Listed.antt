-- The words of an object's members, which stand behind its flags and fields.
use Rattle.std.proofs.Common.{◌≡◌, ℕ, zero, suc, ◌<◌, get_or, refl, ◌∷◌, arith}
use Rattle.control_word.proofs.Prelude.{Object}
use Rattle.control_word.specs.Words.{listed, object_words, packed}
use Rattle.control_word.specs.Limits.{most_members}

pub listed_at : (n : ℕ) (f : ℕ → ℕ) (j : ℕ) → j < n → get_or (listed n f) j 0 ≡ f j
listed_at zero f j lt = absurd (omega arith)
listed_at (suc n) f zero lt = refl
listed_at (suc n) f (suc j) lt = listed_at n (λ i. f (suc i)) j (omega arith)

pub listed_same : (n : ℕ) (f g : ℕ → ℕ) (j : ℕ) → f j ≡ g j → get_or (listed n f) j 0 ≡ get_or (listed n g) j 0
listed_same zero f g j e = refl
listed_same (suc n) f g zero e = e
listed_same (suc n) f g (suc j) e = listed_same n (λ i. f (suc i)) (λ i. g (suc i)) j e

pub listed_zero : (n : ℕ) (f : ℕ → ℕ) (j : ℕ) → ((i : ℕ) → f i ≡ 0) → get_or (listed n f) j 0 ≡ 0
listed_zero zero f j e = refl
listed_zero (suc n) f zero e = e 0
listed_zero (suc n) f (suc j) e = listed_zero n (λ i. f (suc i)) j (λ i. e (suc i))

pub listed_equal : (n : ℕ) (f g : ℕ → ℕ) → ((i : ℕ) → i < n → f i ≡ g i) → listed n f ≡ listed n g
listed_equal zero f g e = refl
listed_equal (suc n) f g e =
    let a = e 0 (omega arith) in
    let b = listed_equal n (λ i. f (suc i)) (λ i. g (suc i)) (λ i lt. e (suc i) (omega arith)) in λ i. a i ∷ b i

-- the words behind the first five
pub words_high : (f : ℕ → ℕ) (x : Object) (j : ℕ)
    → get_or (object_words f x) (suc (suc (suc (suc (suc j))))) 0 ≡ get_or (listed most_members (λ m. packed f (x.member m))) j 0
unfolding object_words
words_high f x j = refl
