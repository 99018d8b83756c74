-- A list with one element set, read at an index.
use Rattle.std.proofs.Common.{◌≡◌, ℕ, zero, suc, ◌<◌, ◌≢◌, List, [], ◌∷◌, length, set, slice_get}
use Rattle.std.proofs.Common.{Some, refl, ap, arith}

module _ {X : Type 0} where
  pub get_other : (xs : List X) (i j : ℕ) (y : X) → j ≢ i → slice_get (set xs i y) j ≡ slice_get xs j
  get_other [] i j y h = refl
  get_other (x ∷ xs) zero zero y h = absurd (h refl)
  get_other (x ∷ xs) zero (suc j) y h = refl
  get_other (x ∷ xs) (suc i) zero y h = refl
  get_other (x ∷ xs) (suc i) (suc j) y h = get_other xs i j y (λ e. h (ap suc e))

  pub get_same : (xs : List X) (i : ℕ) (y : X) → i < length xs → slice_get (set xs i y) i ≡ Some y
  get_same [] i y lt = absurd (omega arith)
  get_same (x ∷ xs) zero y lt = refl
  get_same (x ∷ xs) (suc i) y lt = get_same xs i y (omega arith)
