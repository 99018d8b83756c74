-- Lines that are put one after the other.
use Rattle.std.proofs.Common.{◌≡◌, ℕ, ◌+◌, ◌<◌, List, [], ◌∷◌, ◌++◌, length, get_or, take, sym, ap}
use Rattle.std.proofs.Common.{◌∙◌, append_assoc, append-nil}
use Rattle.script_stepper.proofs.Prelude.{ended, ended-append, flat_map, flat_map-append}
use Rattle.script_stepper.proofs.Prelude.{take_more}
use Rattle.std.proofs.lemmas.List.Concat.{flat_map-cons}

pub flat_map-one : {A B : Type 0} (f : A → List B) (x : A) → flat_map f (x ∷ []) ≡ f x
flat_map-one f x = flat_map-cons f x [] ∙ append-nil (f x)

-- one element more
pub lines_more : {A : Type 0} (f : A → List (List ℕ)) (xs : List A) (i : ℕ) (x : A) → i < length xs
    → ended (flat_map f (take (i + 1) xs)) ≡ ended (flat_map f (take i xs)) ++ ended (f (get_or xs i x))
lines_more {A} f xs i x lt =
    ap (λ (ys : List A). ended (flat_map f ys)) (take_more xs i x lt)
    ∙ ap ended (flat_map-append f (take i xs) (get_or xs i x ∷ []))
    ∙ ended-append (flat_map f (take i xs)) (flat_map f (get_or xs i x ∷ []))
    ∙ ap (λ (t : List (List ℕ)). ended (flat_map f (take i xs)) ++ ended t) (flat_map-one f (get_or xs i x))

-- lines after lines
pub lines_then : (xs ys : List (List ℕ)) (a b c : List ℕ) → b ≡ a ++ ended xs → c ≡ b ++ ended ys → c ≡ a ++ ended (xs ++ ys)
lines_then xs ys a b c p q =
    q ∙ ap (λ (t : List ℕ). t ++ ended ys) p ∙ append_assoc a (ended xs) (ended ys) ∙ ap (λ (t : List ℕ). a ++ t) (sym (ended-append xs ys))

-- a text that has the lines of the first elements, and then those of one element more
pub lines_on : {A : Type 0} (f : A → List (List ℕ)) (xs : List A) (i : ℕ) (x : A) (a b c : List ℕ) → i < length xs
    → b ≡ a ++ ended (flat_map f (take i xs)) → c ≡ b ++ ended (f (get_or xs i x))
    → c ≡ a ++ ended (flat_map f (take (i + 1) xs))
lines_on {A} f xs i x a b c lt p q =
    q
    ∙ ap (λ (t : List ℕ). t ++ ended (f (get_or xs i x))) p
    ∙ append_assoc a (ended (flat_map f (take i xs))) (ended (f (get_or xs i x)))
    ∙ ap (λ (t : List ℕ). a ++ t) (sym (lines_more f xs i x lt))
