-- The views of a table, of which one is read or changed.
use Rattle.std.proofs.Common.{◌≡◌, ℕ, zero, suc, ◌+◌, ◌<◌, ◌≤◌, List, [], ◌∷◌, length, get_or, set}
use Rattle.std.proofs.Common.{All, sum_by, sym, ap, ◌∙◌, subst, arith}
use Rattle.ownership_ledger.proofs.Prelude.{get_elem?, some, some-injective}
use Rattle.std.proofs.lemmas.List.Elements.{All-get_or}
use Rattle.std.proofs.lemmas.List.Sums.{get_or-le-sum_by, sum_by-set}
use mathlib.Core.Option.{some-ne-none}

module _ {A : Type 0} where
  there : (l : List A) (i : ℕ) (a d : A) → get_elem? l i ≡ some a → (i < length l) × (get_or l i d ≡ a)
  there [] i a d e = absurd (some-ne-none a (sym e))
  there (x ∷ xs) zero a d e = (omega arith, some-injective x a e)
  there (x ∷ xs) (suc i) a d e =
      let t = there xs i a d e in
      let inside = t.0 in
      (omega arith, t.1)

  pub All-at : (P : A → Type 0) (l : List A) (i : ℕ) (a : A) → get_elem? l i ≡ some a → All P l → P a
  All-at P l i a e h = let t = there l i a a e in subst P t.1 (All-get_or P l i a t.0 h)

  pub sum_by-at : (f : A → ℕ) (l : List A) (i : ℕ) (a : A) → get_elem? l i ≡ some a → f a ≤ sum_by f l
  sum_by-at f l i a e =
      let t = there l i a a e in
      subst (λ z. f z ≤ sum_by f l) t.1 (get_or-le-sum_by f l i a t.0)

  pub sum_by-replaced : (f : A → ℕ) (l : List A) (i : ℕ) (a b : A) → get_elem? l i ≡ some a
      → sum_by f (set l i b) + f a ≡ sum_by f l + f b
  sum_by-replaced f l i a b e =
      let t = there l i a a e in
      ap (λ z. sum_by f (set l i b) + f z) (sym t.1) ∙ sum_by-set f l i b a t.0
