-- Room for objects, one more at a time.
use Rattle.std.proofs.Common.{◌≡◌, ℕ, zero, suc, ◌+◌, List, [], ◌∷◌, ◌++◌, replicate, refl, sym}
use Rattle.std.proofs.Common.{ap, ◌∙◌, append_assoc, append-nil, arith}

replicate_last : (k : ℕ) → ◌++◌ {A = ℕ} (replicate k 0) (0 ∷ []) ≡ replicate (suc k) 0
replicate_last zero = refl
replicate_last (suc k) = ap (λ (l : List ℕ). 0 ∷ l) (replicate_last k)

pub room_none : (a : List ℕ) (k : ℕ) → k ≡ 0 → a ≡ a ++ replicate k 0
room_none a k none = sym (append-nil a) ∙ ap (λ (n : ℕ). a ++ replicate n 0) (sym none)

pub room_more : (a b b' : List ℕ) (k j : ℕ) → b ≡ a ++ replicate k 0 → b' ≡ b ++ 0 ∷ [] → j ≡ k + 1
    → b' ≡ a ++ replicate j 0
room_more a b b' k j so_far push next =
    let e : suc k ≡ j = omega arith in
    push ∙ ap (λ (l : List ℕ). l ++ 0 ∷ []) so_far ∙ append_assoc a (replicate k 0) (0 ∷ [])
    ∙ ap (λ (l : List ℕ). a ++ l) (replicate_last k) ∙ ap (λ (n : ℕ). a ++ replicate n 0) e

pub room_is : (a b : List ℕ) (k j : ℕ) → b ≡ a ++ replicate k 0 → k ≡ j → b ≡ a ++ replicate j 0
room_is a b k j so_far e = so_far ∙ ap (λ (n : ℕ). a ++ replicate n 0) e
