-- How many slots of a list have a handle.
use Rattle.std.proofs.Common.{◌≡◌, ℕ, ◌+◌, ◌<◌, ◌≤◌, true, false, List, [], ◌∷◌, ◌++◌, length}
use Rattle.std.proofs.Common.{get_or, take, is_some, Some, None, Option, sym, refl, ap, ◌∙◌, arith}
use Rattle.std.proofs.Common.{length-append}
use Rattle.control_block.proofs.Prelude.{handles_in}
use Rattle.std.proofs.lemmas.List.{take_more}
use Rattle.control_block.specs.declared.handles.Held.{Held}

pub filled_few : (l : List (Option Held)) → length (handles_in l) ≤ length l
filled_few [] = omega arith
filled_few (None ∷ l) = let t = filled_few l in omega arith
filled_few (Some h ∷ l) = let t = filled_few l in omega arith

handles_append : (a b : List (Option Held)) → handles_in (a ++ b) ≡ handles_in a ++ handles_in b
handles_append [] b = refl
handles_append (None ∷ a) b = handles_append a b
handles_append (Some h ∷ a) b = ap (λ l. h ∷ l) (handles_append a b)

one_more : (a : List (Option Held)) (x : Option Held) → length (handles_in (a ++ x ∷ [])) ≡ length (handles_in a) + length (handles_in (x ∷ []))
one_more a x = ap length (handles_append a (x ∷ [])) ∙ length-append (handles_in a) (handles_in (x ∷ []))

one_filled : (x : Option Held) → is_some x ≡ true → length (handles_in (x ∷ [])) ≡ 1
one_filled None e = absurd cc
one_filled (Some h) e = refl

one_vacant : (x : Option Held) → is_some x ≡ false → length (handles_in (x ∷ [])) ≡ 0
one_vacant None e = refl
one_vacant (Some h) e = absurd cc

module _ (l : List (Option Held)) (i : ℕ) (x : Option Held) (low : i < length l) (at : x ≡ get_or l i x) where
  next : length (handles_in (take (i + 1) l)) ≡ length (handles_in (take i l)) + length (handles_in (x ∷ []))
  next =
      ap (λ r. length (handles_in r)) (take_more l i x low)
      ∙ (ap (λ y. length (handles_in (take i l ++ y ∷ []))) (sym at) ∙ one_more (take i l) x)

  pub next_filled : is_some x ≡ true → length (handles_in (take (i + 1) l)) ≡ length (handles_in (take i l)) + 1
  next_filled e = let a = next in let b = one_filled x e in omega arith

  pub next_vacant : is_some x ≡ false → length (handles_in (take (i + 1) l)) ≡ length (handles_in (take i l))
  next_vacant e = let a = next in let b = one_vacant x e in omega arith
