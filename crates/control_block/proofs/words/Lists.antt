-- Lists of views, read by place.
use Rattle.std.proofs.Common.{◌≡◌, ℕ, zero, suc, ◌≢◌, List, [], ◌∷◌, map, set, sym, refl, ap}
use Rattle.std.proofs.Common.{subst, ⊎_elim}
use Rattle.control_block.proofs.Prelude.{at_set, get_elem?, some, some-injective, some-ne-none}

module _ {A : Type 0} where
  pub set_there : (l : List A) (i : ℕ) (a b : A) → get_elem? l i ≡ some a → get_elem? (set l i b) i ≡ some b
  set_there [] i a b e = absurd (some-ne-none a (sym e))
  set_there (x ∷ xs) zero a b e = refl
  set_there (x ∷ xs) (suc i) a b e = set_there xs i a b e

  pub map_set : {B : Type 0} (f : A → B) (l : List A) (i : ℕ) (x : A) → map f (set l i x) ≡ set (map f l) i (f x)
  map_set f [] i x = refl
  map_set f (y ∷ ys) zero x = refl
  map_set f (y ∷ ys) (suc i) x = ap (λ t. f y ∷ t) (map_set f ys i x)

  pub map_back : {B : Type 0} (f : A → B) (l : List A) (i : ℕ) (y : B) → get_elem? (map f l) i ≡ some y
      → (x : A) × (get_elem? l i ≡ some x) × (f x ≡ y)
  map_back f [] i y e = absurd (some-ne-none y (sym e))
  map_back f (x ∷ xs) zero y e = (x, refl, some-injective (f x) y e)
  map_back f (x ∷ xs) (suc i) y e = map_back f xs i y e

  -- what is so of the new item and of the others is so of all
  pub each_set : (P : ℕ → A → Type 0) (l : List A) (i : ℕ) (a : A) → P i a → ((j : ℕ) (u : A) → j ≢ i → get_elem? l j ≡ some u → P j u)
      → (j : ℕ) (u : A) → get_elem? (set l i a) j ≡ some u → P j u
  each_set P l i a mine others j u e =
      ⊎_elim (λ (t : (j ≡ i) × (a ≡ u)). subst (λ (z : ℕ × A). P z.0 z.1) (λ k. (sym t.0 k, t.1 k)) mine)
      (λ (t : (j ≢ i) × (get_elem? l j ≡ some u)). others j u t.0 t.1) (at_set l i j a u e)

  pub set_same : (l : List A) (i : ℕ) (a : A) → get_elem? l i ≡ some a → set l i a ≡ l
  set_same [] i a e = refl
  set_same (x ∷ xs) zero a e = ap (λ y. y ∷ xs) (sym (some-injective x a e))
  set_same (x ∷ xs) (suc i) a e = ap (λ l. x ∷ l) (set_same xs i a e)
