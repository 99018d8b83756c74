-- What the tests of a program find.
use Rattle.std.proofs.Common.{◌≡◌, ℕ, zero, suc, ◌+◌, ◌<◌, ◌≤◌, Bool, true, false, ◌&&◌, ◌≢◌, List}
use Rattle.std.proofs.Common.{[], ◌∷◌, ◌++◌, map, length, get_or, take, IsTrue, Some, All, sum_by}
use Rattle.std.proofs.Common.{Option, sym, refl, ap, ◌∙◌, subst, ⊎_elim, arith}
use Rattle.step_core.proofs.Prelude.{Actor, All-append, All-cons, All-head, All-nil, All-tail}
use Rattle.step_core.proofs.Prelude.{Asked, asked_list, Call, call_count, cases_eq, get_or-map}
use Rattle.step_core.proofs.Prelude.{IsDeclared, IsWellNamed, Kind, length-map, map_push, names_of}
use Rattle.step_core.proofs.Prelude.{Part, part_of, sum_by-take-le, take_more}
use Rattle.std.proofs.lemmas.List.{take-map}
use Rattle.std.proofs.lemmas.List.Sums.{sum_by_push}

not_true : IsTrue false → ⊥
not_true t = cc

-- a test that tells just whether a type has a value
abbrev pub Tells : Bool → Type 0 → Type 0
Tells b P = (IsTrue b → P) × (P → IsTrue b)

-- what holds of each element of two lists in a row
all_left : {X : Type 0} (P : X → Type 0) (xs ys : List X) → All P (xs ++ ys) → All P xs
all_left P [] ys a = All-nil P
all_left P (x ∷ xs) ys a = All-cons P x xs (All-head P x (xs ++ ys) a) (all_left P xs ys (All-tail P x (xs ++ ys) a))

all_right : {X : Type 0} (P : X → Type 0) (xs ys : List X) → All P (xs ++ ys) → All P ys
all_right P [] ys a = a
all_right P (x ∷ xs) ys a = all_right P xs ys (All-tail P x (xs ++ ys) a)

-- a test of a name that is there, as one of the list that it is
pub one_named : (kinds : List Kind) (asked : Option Asked) (x : Asked) (b : Bool) → asked ≡ Some x → Tells b (IsDeclared kinds x)
    → Tells b (All (IsDeclared kinds) (asked_list asked))
one_named kinds asked x b e h =
    subst (λ (o : Option Asked). Tells b (All (IsDeclared kinds) (asked_list o))) (sym e) (
      λ t. All-cons (IsDeclared kinds) x [] (h.0 t) (All-nil (IsDeclared kinds)),
      λ a. h.1 (All-head (IsDeclared kinds) x [] a),
    )

-- three tests in a row, of lists of names
three_tests : (kinds : List Kind) (xs ys zs : List Asked) (p q r : Bool) → Tells p (All (IsDeclared kinds) xs)
    → Tells q (All (IsDeclared kinds) ys) → Tells r (All (IsDeclared kinds) zs) → Tells (p && q && r) (All (IsDeclared kinds) ((xs ++ ys) ++ zs))
three_tests kinds xs ys zs false q r h k l = (
  λ t. absurd (not_true t),
  λ a. h.1 (all_left (IsDeclared kinds) xs ys (all_left (IsDeclared kinds) (xs ++ ys) zs a)),
)
three_tests kinds xs ys zs true false r h k l = (
  λ t. absurd (not_true t),
  λ a. k.1 (all_right (IsDeclared kinds) xs ys (all_left (IsDeclared kinds) (xs ++ ys) zs a)),
)
three_tests kinds xs ys zs true true r h k l = (
  λ t. All-append (IsDeclared kinds) (xs ++ ys) zs (All-append (IsDeclared kinds) xs ys (h.0 refl) (k.0 refl)) (l.0 t),
  λ a. l.1 (all_right (IsDeclared kinds) (xs ++ ys) zs a),
)

pub three_named : (kinds : List Kind) (call : Call) (xs ys zs : List Asked) (p q r b : Bool) → names_of call ≡ (xs ++ ys) ++ zs
    → b ≡ (p && q && r) → Tells p (All (IsDeclared kinds) xs) → Tells q (All (IsDeclared kinds) ys) → Tells r (All (IsDeclared kinds) zs)
    → Tells b (IsWellNamed kinds call)
three_named kinds call xs ys zs p q r b e is h k l =
    subst (λ (l : List Asked). Tells b (All (IsDeclared kinds) l)) (sym e)
    (subst (λ (t : Bool). Tells t (All (IsDeclared kinds) ((xs ++ ys) ++ zs))) (sym is) (three_tests kinds xs ys zs p q r h k l))

-- what holds of each element's image
pub all_mapped : {X Y : Type 0} (P : Y → Type 0) (f : X → Y) (xs : List X) → All P (map f xs) → (k : ℕ) (d : X) → k < length xs → P (f
    (get_or xs k d))
all_mapped P f xs all k d lt =
    subst P (get_or-map f xs k d (f d) lt) (all k (f d) (let l = length-map xs f in omega (arith, l, lt)))

-- one more actor's calls
pub more_calls : (actors : List Actor) (i n : ℕ) (a : Actor) → i < length actors → a ≡ get_or actors i a → n ≡ call_count (map part_of
    (take i actors))
    → n + length a.calls.items ≤ call_count (map part_of actors)
more_calls actors i n a lt is sum =
    let g : Part → ℕ = λ part. length part.calls in
    let t = take_more actors i a lt in
    let m = map_push part_of (take i actors) (get_or actors i a) in
    let s = sum_by_push g (map part_of (take i actors)) (part_of (get_or actors i a)) in
    let whole = sum_by-take-le g (map part_of actors) (i + 1) in
    let w : take (i + 1) (map part_of actors) ≡ map part_of (take i actors) ++ part_of (get_or actors i a) ∷ [] =
    take-map part_of (i + 1) actors ∙ ap (λ (l : List Actor). map part_of l) t ∙ m in
    let v = ap (λ (l : List Part). sum_by g l) w in
    let u : length a.calls.items ≡ length (get_or actors i a).calls.items = ap (λ (x : Actor). length x.calls.items) is in
    omega (arith, s, whole, v, u, sum)

-- what holds of the elements before one, and of that one
pub held_by_more : {X : Type 0} (P : X → Type 0) (xs : List X) (i : ℕ) (x : X) → ((k : ℕ) (d : X) → k < i → P (get_or xs k d)) → i < length xs
    → P (get_or xs i x) → (k : ℕ) (d : X) → k < i + 1 → P (get_or xs k d)
held_by_more P xs i x before inside here k d lt =
    ⊎_elim (λ (e : k ≡ i). subst (λ (j : ℕ). P (get_or xs j d)) (sym e) (subst P (any xs i x d inside) here))
    (λ (n : k ≢ i). before k d (omega (arith, lt, n))) (cases_eq k i)
  where
    any : {X : Type 0} (xs : List X) (i : ℕ) (x d : X) → i < length xs → get_or xs i x ≡ get_or xs i d
    any [] i x d lt = absurd (omega arith)
    any (y ∷ ys) zero x d lt = refl
    any (y ∷ ys) (suc i) x d lt = any ys i x d (omega arith)
