-- Lines that are put one after the other.
use Rattle.std.proofs.Common.{◌≡◌, ℕ, suc, ◌+◌, ◌<◌, List, [], ◌∷◌, ◌++◌, map, length, get_or}
use Rattle.std.proofs.Common.{take, refl, sym, ap, ◌∙◌, append_assoc, append-nil, arith}
use Rattle.owner_text.proofs.Prelude.{ended, flat_map, lines_to}
use Rattle.std.proofs.lemmas.Grind.{flat_map-append}
use Rattle.std.proofs.lemmas.List.{map-append, take_more}
use Rattle.std.proofs.lemmas.List.Concat.{flat_map-cons}
use Rattle.text_lines.proofs.Ended.{ended-append}

flat_map-one : {A B : Type 0} (f : A → List B) (x : A) → flat_map f (x ∷ []) ≡ f x
flat_map-one f x = flat_map-cons f x [] ∙ append-nil (f x)

flat_more : {A B : Type 0} (f : A → List B) (xs : List A) (i : ℕ) (x : A) → i < length xs
    → flat_map f (take (i + 1) xs) ≡ flat_map f (take i xs) ++ f (get_or xs i x)
flat_more {A} f xs i x lt =
    ap (λ (ys : List A). flat_map f ys) (take_more xs i x lt)
    ∙ flat_map-append f (take i xs) (get_or xs i x ∷ [])
    ∙ ap (λ t. flat_map f (take i xs) ++ t) (flat_map-one f (get_or xs i x))

-- lines after lines
pub lines_then : (xs ys : List (List ℕ)) (a b c : List ℕ) → b ≡ a ++ ended xs → c ≡ b ++ ended ys
    → c ≡ a ++ ended (xs ++ ys)
lines_then xs ys a b c p q =
    q ∙ ap (λ (t : List ℕ). t ++ ended ys) p ∙ append_assoc a (ended xs) (ended ys)
    ∙ ap (λ (t : List ℕ). a ++ t) (sym (ended-append xs ys))

-- the lines of one element more
pub lines_on : {A : Type 0} (f : A → List (List ℕ)) (xs : List A) (i : ℕ) (x : A) (a b c : List ℕ)
    → i < length xs
    → b ≡ a ++ ended (flat_map f (take i xs)) → c ≡ b ++ ended (f (get_or xs i x))
    → c ≡ a ++ ended (flat_map f (take (i + 1) xs))
lines_on f xs i x a b c lt p q =
    lines_then (flat_map f (take i xs)) (f (get_or xs i x)) a b c p q
    ∙ ap (λ (t : List (List ℕ)). a ++ ended t) (sym (flat_more f xs i x lt))

-- the line of one element more
pub line_on : {A : Type 0} (f : A → List ℕ) (xs : List A) (i : ℕ) (x : A) (a b c : List ℕ)
    → i < length xs
    → b ≡ a ++ ended (map f (take i xs)) → c ≡ b ++ ended (f (get_or xs i x) ∷ [])
    → c ≡ a ++ ended (map f (take (i + 1) xs))
line_on {A} f xs i x a b c lt p q =
    lines_then (map f (take i xs)) (f (get_or xs i x) ∷ []) a b c p q
    ∙ ap (λ (t : List (List ℕ)). a ++ ended t)
    (sym (ap (λ (ys : List A). map f ys) (take_more xs i x lt)
    ∙ map-append f (take i xs) (get_or xs i x ∷ [])))

-- the bytes of one element more
pub bytes_on : {A : Type 0} (f : A → List ℕ) (xs : List A) (i : ℕ) (x : A) (a b c : List ℕ)
    → i < length xs
    → b ≡ a ++ flat_map f (take i xs) → c ≡ b ++ f (get_or xs i x)
    → c ≡ a ++ flat_map f (take (i + 1) xs)
bytes_on f xs i x a b c lt p q =
    q ∙ ap (λ (t : List ℕ). t ++ f (get_or xs i x)) p
    ∙ append_assoc a (flat_map f (take i xs)) (f (get_or xs i x))
    ∙ ap (λ (t : List ℕ). a ++ t) (sym (flat_more f xs i x lt))

-- the lines of one number more
pub numbers_on : (f : ℕ → List (List ℕ)) (n : ℕ) (a b c : List ℕ) → b ≡ a ++ ended (lines_to f n)
    → c ≡ b ++ ended (f (n + 1))
    → c ≡ a ++ ended (lines_to f (n + 1))
numbers_on f n a b c p q =
    let next : n + 1 ≡ suc n = omega arith in
    lines_then (lines_to f n) (f (n + 1)) a b c p q
    ∙ ap (λ (k : ℕ). a ++ ended (lines_to f n ++ f k)) next
    ∙ ap (λ (k : ℕ). a ++ ended (lines_to f k)) (sym next)

-- a line by its parts
pub line_then : (x y z w a b c d e : List ℕ) → b ≡ a ++ x → c ≡ b ++ y → d ≡ c ++ z
    → e ≡ d ++ (w ++ 10 ∷ [])
    → e ≡ a ++ ended ((((x ++ y) ++ z) ++ w) ∷ [])
line_then x y z w a b c d e p q r s = rw (s, r, q, p) (simp append_assoc refl)
