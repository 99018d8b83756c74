-- The words after the first one.
use Rattle.std.proofs.Common.{◌≡◌, ◌<◌, ◌≤◌, List, [], ◌∷◌, length, get_or, refl, arith}

-- a list of two has its first and its second element
pub pair_of : {A : Type 0} (xs : List A) (d : A) → 2 ≤ length xs → length xs < 3
    → xs ≡ get_or xs 0 d ∷ get_or xs 1 d ∷ []
pair_of [] d few many = absurd (omega arith)
pair_of (x ∷ []) d few many = absurd (omega arith)
pair_of (x ∷ y ∷ []) d few many = refl
pair_of (x ∷ y ∷ z ∷ xs) d few many = absurd (omega arith)

-- and a list of three its first, its second and its third
pub three_of : {A : Type 0} (xs : List A) (d : A) → 3 ≤ length xs → length xs < 4
    → xs ≡ get_or xs 0 d ∷ get_or xs 1 d ∷ get_or xs 2 d ∷ []
three_of [] d few many = absurd (omega arith)
three_of (x ∷ []) d few many = absurd (omega arith)
three_of (x ∷ y ∷ []) d few many = absurd (omega arith)
three_of (x ∷ y ∷ z ∷ []) d few many = refl
three_of (x ∷ y ∷ z ∷ u ∷ xs) d few many = absurd (omega arith)
