-- Lines with their line feeds, one after the other.
use Rattle.std.proofs.Common.{◌≡◌, ℕ, ◌≤◌, List, [], ◌∷◌, ◌++◌, length, map, take, refl, sym, ap}
use Rattle.std.proofs.Common.{◌∙◌, append_assoc}
use Rattle.std.specs.List.{flat_map}
use Rattle.std.proofs.lemmas.List.{take_all}
use Rattle.std.proofs.lemmas.List.Concat.{flat_map-cons}
use Rattle.text_lines.specs.Lines.{ended}

-- a line with its line feed
abbrev pub with_feed : List ℕ → List ℕ
with_feed line = line ++ 10 ∷ []

pub ended-append : (xs ys : List (List ℕ)) → ended (xs ++ ys) ≡ ended xs ++ ended ys
ended-append [] ys = refl
ended-append (x ∷ xs) ys =
    ap (λ (t : List ℕ). x ++ 10 ∷ t) (ended-append xs ys)
    ∙ sym (append_assoc x (10 ∷ ended xs) (ended ys))

pub ended-map : {A : Type 0} (f : A → List ℕ) (xs : List A)
    → ended (map f xs) ≡ flat_map (λ x. with_feed (f x)) xs
ended-map f [] = refl
ended-map f (x ∷ xs) =
    sym (append_assoc (f x) (10 ∷ []) (ended (map f xs)))
    ∙ ap (λ (t : List ℕ). with_feed (f x) ++ t) (ended-map f xs)
    ∙ sym (flat_map-cons (λ y. with_feed (f y)) x xs)

pub ended-flat_map : {A : Type 0} (f : A → List (List ℕ)) (xs : List A)
    → ended (flat_map f xs) ≡ flat_map (λ x. ended (f x)) xs
ended-flat_map f [] = refl
ended-flat_map f (x ∷ xs) =
    ap ended (flat_map-cons f x xs) ∙ ended-append (f x) (flat_map f xs)
    ∙ ap (λ (t : List ℕ). ended (f x) ++ t) (ended-flat_map f xs)
    ∙ sym (flat_map-cons (λ y. ended (f y)) x xs)

-- ---- at the end of a loop

-- lines that were put one by one
pub lines_done : {A : Type 0} (f : A → List ℕ) (xs : List A) (i : ℕ) (text out : List ℕ)
    → length xs ≤ i
    → out ≡ text ++ flat_map (λ x. with_feed (f x)) (take i xs) → out ≡ text ++ ended (map f xs)
lines_done {A} f xs i text out all h =
    h ∙ ap (λ (ys : List A). text ++ flat_map (λ x. with_feed (f x)) ys) (take_all i xs all)
    ∙ ap (λ (t : List ℕ). text ++ t) (sym (ended-map f xs))

-- lists of lines that were put one by one
pub parts_done : {A B : Type 0} (f : B → List (List ℕ)) (view : A → B) (xs : List A) (i : ℕ)
    (text out : List ℕ)
    → length xs ≤ i
    → out ≡ text ++ flat_map (λ y. ended (f y)) (map view (take i xs)) → out ≡ text ++ ended
    (flat_map f (map view xs))
parts_done {A} f view xs i text out all h =
    h ∙ ap (λ (ys : List A). text ++ flat_map (λ y. ended (f y)) (map view ys)) (take_all i xs all)
    ∙ ap (λ (t : List ℕ). text ++ t) (sym (ended-flat_map f (map view xs)))
