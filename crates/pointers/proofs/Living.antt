-- Claims that live, as one comes and one ends.
use Rattle.std.proofs.Common.{◌≡◌, ℕ, zero, suc, ◌⊎◌, List, [], ◌∷◌, ◌++◌, slice_get, slice_set}
use Rattle.std.proofs.Common.{Some, None, Option, sym, refl, ap, subst, inl, inr}
use Rattle.pointers.proofs.Prelude.{Has, Held, Known, living}
use Rattle.std.proofs.lemmas.List.Sorted.{IsPermutation-cons, IsPermutation-middle}
use Rattle.std.proofs.lemmas.List.Sorted.{IsPermutation-refl, IsPermutation-trans}
use Rattle.std.specs.List.Sorted.{IsPermutation}

module _ {A : Type 0} where
  abbrev Is : A → Option A → Type 0
  Is a None = ⊥
  Is a (Some b) = a ≡ b

  pub same_some : (x y : A) → Some x ≡ Some y → x ≡ y
  same_some x y e = subst (Is x) e refl

  no_none : (x : A) → None ≡ Some x → ⊥
  no_none x e = subst (Is x) (sym e) refl

  -- what stands in a list that one was put behind
  abbrev pub Behind : List A → A → ℕ → A → Type 0
  Behind l x k y = (slice_get l k ≡ Some y) ⊎ (x ≡ y)

  up : (l : List A) (x y z : A) (k : ℕ) → Behind l x k y → Behind (z ∷ l) x (suc k) y
  up l x y z k (inl e) = inl e
  up l x y z k (inr e) = inr e

  pub stands_behind : (l : List A) (x : A) (k : ℕ) (y : A) → slice_get (l ++ x ∷ []) k ≡ Some y → Behind l x k y
  stands_behind [] x zero y e = inr (same_some x y e)
  stands_behind [] x (suc k) y e = absurd (no_none y e)
  stands_behind (z ∷ l) x zero y e = inl e
  stands_behind (z ∷ l) x (suc k) y e = up l x y z k (stands_behind l x k y e)

module _ {V : Type 0} where
  -- a claim that doesn't live any more is None, and so another that does was there before
  pub lived : (cs : List (Option (Known V))) (i j : ℕ) (c : Known V) → slice_get (slice_set cs i None) j ≡ Some (Some c)
      → slice_get cs j ≡ Some (Some c)
  lived [] i j c e = e
  lived (x ∷ cs) zero zero c e = absurd (no_none c (same_some None (Some c) e))
  lived (x ∷ cs) zero (suc j) c e = e
  lived (x ∷ cs) (suc i) zero c e = e
  lived (x ∷ cs) (suc i) (suc j) c e = lived cs i j c e

  pub held_of : (cs : List (Option (Known V))) (i : ℕ) (c : Known V) → slice_get cs i ≡ Some (Some c) → Has c.handle (living cs)
  held_of [] i c e = absurd (no_none (Some c) e)
  held_of (None ∷ cs) zero c e = absurd (no_none c (same_some None (Some c) e))
  held_of (None ∷ cs) (suc i) c e = held_of cs i c e
  held_of (Some x ∷ cs) zero c e = inl (ap (λ (y : Known V). y.handle) (sym (same_some x c (same_some (Some x) (Some c) e))))
  held_of (Some x ∷ cs) (suc i) c e = inr (held_of cs i c e)

  -- one more handle lives
  pub one_more : (cs : List (Option (Known V))) (c : Known V) → IsPermutation (c.handle ∷ living cs) (living (cs ++ Some c ∷ []))
  one_more [] c = IsPermutation-refl (c.handle ∷ [])
  one_more (None ∷ cs) c = one_more cs c
  one_more (Some x ∷ cs) c =
      IsPermutation-trans (c.handle ∷ x.handle ∷ living cs) (x.handle ∷ c.handle ∷ living cs) (x.handle ∷ living (cs ++ Some c ∷ []))
      (IsPermutation-middle (c.handle ∷ []) x.handle (living cs))
      (IsPermutation-cons x.handle (c.handle ∷ living cs) (living (cs ++ Some c ∷ [])) (one_more cs c))

  -- one less
  pub one_less : (cs : List (Option (Known V))) (i : ℕ) (c : Known V) → slice_get cs i ≡ Some (Some c)
      → IsPermutation (living cs) (c.handle ∷ living (slice_set cs i None))
  one_less [] i c e = absurd (no_none (Some c) e)
  one_less (None ∷ cs) zero c e = absurd (no_none c (same_some None (Some c) e))
  one_less (None ∷ cs) (suc i) c e = one_less cs i c e
  one_less (Some x ∷ cs) zero c e =
      subst (λ (h : Held). IsPermutation (x.handle ∷ living cs) (h ∷ living cs))
      (ap (λ (y : Known V). y.handle) (same_some x c (same_some (Some x) (Some c) e)))
      (IsPermutation-refl (x.handle ∷ living cs))
  one_less (Some x ∷ cs) (suc i) c e =
      IsPermutation-trans (x.handle ∷ living cs) (x.handle ∷ c.handle ∷ living (slice_set cs i None)) (c.handle ∷ x.handle ∷ living (slice_set cs i None))
      (IsPermutation-cons x.handle (living cs) (c.handle ∷ living (slice_set cs i None)) (one_less cs i c e))
      (IsPermutation-middle (x.handle ∷ []) c.handle (living (slice_set cs i None)))
