-- Lists one after another, and what a list's elements give, one more at a time.
use Rattle.std.proofs.Common.{◌≡◌, ℕ, zero, suc, ◌+◌, ◌<◌, List, [], ◌∷◌, ◌++◌, length, take}
use Rattle.std.proofs.Common.{get_or, refl, sym, ap, ◌∙◌, arith}
use Rattle.owner_graph.proofs.Prelude.{flat_map}

pub nil_right : {A : Type 0} → (l : List A) → l ++ [] ≡ l
nil_right [] = refl
nil_right (x ∷ xs) = ap (λ l. x ∷ l) (nil_right xs)

pub join : {A : Type 0} → (x y z : List A) → (x ++ y) ++ z ≡ x ++ (y ++ z)
join [] y z = refl
join (u ∷ us) y z = ap (λ l. u ∷ l) (join us y z)

take_next : {A B : Type 0} → (f : A → List B) (xs : List A) (i : ℕ) (d : A) → i < length xs
    → flat_map f (take (suc i) xs) ≡ flat_map f (take i xs) ++ f (get_or xs i d)
take_next f [] i d lt = absurd (omega arith)
take_next f (x ∷ xs) zero d lt = nil_right (f x)
take_next f (x ∷ xs) (suc i) d lt =
    ap (λ l. f x ++ l) (take_next f xs i d (omega arith))
    ∙ sym (join (f x) (flat_map f (take i xs)) (f (get_or xs i d)))

-- one more
pub take_more : {A B : Type 0} → (f : A → List B) (xs : List A) (i : ℕ) (d : A)
    (so_far next : List B) → i < length xs
    → so_far ≡ flat_map f (take i xs) → next ≡ so_far ++ f (get_or xs i d)
    → next ≡ flat_map f (take (i + 1) xs)
take_more f xs i d so_far next lt p q =
    let e : suc i ≡ i + 1 = omega arith in
    q ∙ ap (λ l. l ++ f (get_or xs i d)) p ∙ sym (take_next f xs i d lt)
    ∙ ap (λ n. flat_map f (take n xs)) e
