-- The least block of a desk's store.
use Rattle.std.proofs.Common.{◌≡◌, ℕ, ◌<◌, ◌≤◌, cond, ◌≢◌, ◌⊎◌, List, [], ◌∷◌, length, ◌==◌, Some}
use Rattle.std.proofs.Common.{None, Option, sym, refl, ap, ◌∙◌, subst, inl, inr, ⊎_elim, arith}
use Rattle.std.proofs.Common.{eq-eqb, ne_eqb, eqb-true}
use Rattle.step_threads.proofs.Prelude.{All, AllByRecursion, and_parts, cases_eq, cases_lt}
use Rattle.step_threads.proofs.Prelude.{cond-false, cond-true, cond_both, eqb-false, filter}
use Rattle.step_threads.proofs.Prelude.{in_list, least, num, num_cons, same_stored, Stored, stored}
use Rattle.step_threads.proofs.Prelude.{sum_by-cons}
use Rattle.std.proofs.Math.Nat.{min-eq_left, min-eq_right}
use Rattle.std.proofs.lemmas.List.Elements.{recursion_from_All}
use Rattle.step_threads.specs.Entries.{lesser}
use Rattle.step_threads.proofs.holding.Storing.{one_stored}

abbrev Least : ℕ → List Stored → Option ℕ → Type 0
Least d l None = (c : ℕ) → num (same_stored (stored d c)) l ≡ 0
Least d l (Some b) = (0 < num (same_stored (stored d b)) l) × ((c : ℕ) → 0 < num (same_stored (stored d c)) l → b ≤ c)

one_mine : (d : ℕ) (x : Stored) (c : ℕ) → x.desk ≡ d → num (same_stored (stored d c)) (x ∷ []) ≡ cond (x.block == c) 1 0
one_mine d x c e = subst (λ (n : ℕ). num (same_stored (stored n c)) (x ∷ []) ≡ cond (x.block == c) 1 0) e (one_stored x.desk x.block c)

one_other : (d : ℕ) (x : Stored) (c : ℕ) → x.desk ≢ d → num (same_stored (stored d c)) (x ∷ []) ≡ 0
one_other d x c n =
    cond_both (same_stored (stored d c) x) (x ∷ []) [] (λ (r : List Stored). length r ≡ 0)
    (λ t. absurd (n (sym (eqb-true _ _ (and_parts _ _ t).0)))) (λ t. refl)

least_lesser : (d : ℕ) (x : Stored) (xs : List Stored) (o : Option ℕ) → x.desk ≡ d → Least d xs o → Least d (x ∷ xs) (lesser x.block o)
least_lesser d x xs None e none =
    let a = λ (c : ℕ). num_cons (same_stored (stored d c)) x xs in
    let m = λ (c : ℕ). one_mine d x c e in (
      let p = a x.block in let q = m x.block in let t = cond-true {A = ℕ} (x.block == x.block) 1 0 (eq-eqb x.block x.block refl) in omega
          (arith, p, q, t),
      λ c lt. ⊎_elim (λ (s : x.block ≡ c). omega (arith, s))
          (λ (n : x.block ≢ c). absurd (let p = a c in let q = m c in let z = none c in
          let t = cond-false {A = ℕ} (x.block == c) 1 0 (ne_eqb x.block c n) in
          omega (arith, p, q, z, t, lt))) (cases_eq x.block c),
    )
least_lesser d x xs (Some b) e some =
    let a = λ (c : ℕ). num_cons (same_stored (stored d c)) x xs in
    let m = λ (c : ℕ). one_mine d x c e in
    let low : (c : ℕ) → 0 < num (same_stored (stored d c)) (x ∷ xs) → (c ≡ x.block) ⊎ (b ≤ c) = λ c lt.
    ⊎_elim (λ (s : x.block ≡ c). inl (sym s))
    (λ (n : x.block ≢ c). inr (some.1 c (let p = a c in let q = m c in
    let t = cond-false {A = ℕ} (x.block == c) 1 0 (ne_eqb x.block c n) in omega (arith, p, q, t, lt))))
    (cases_eq x.block c) in
    ⊎_elim
    (λ (lt : b < x.block). subst (λ (k : ℕ). Least d (x ∷ xs) (Some k)) (sym (min-eq_right {n = b} {m = x.block} (omega arith))) (
      let p = a b in let s = some.0 in omega (arith, p, s),
      λ c g. ⊎_elim (λ (s : c ≡ x.block). omega (arith, s, lt)) (λ (s : b ≤ c). s) (low c g),
    ))
    (λ (ge : x.block ≤ b). subst (λ (k : ℕ). Least d (x ∷ xs) (Some k)) (sym (min-eq_left {n = x.block} {m = b} ge)) (
      let p = a x.block in let q = m x.block in let t = cond-true {A = ℕ} (x.block == x.block) 1 0 (eq-eqb x.block x.block refl) in omega
          (arith, p, q, t),
      λ c g. ⊎_elim (λ (s : c ≡ x.block). omega (arith, s)) (λ (s : b ≤ c). omega (arith, s, ge)) (low c g),
    )) (cases_lt b x.block)

least_past : (d : ℕ) (x : Stored) (xs : List Stored) (o : Option ℕ) → x.desk ≢ d → Least d xs o → Least d (x ∷ xs) o
least_past d x xs None n none = λ c. let p = num_cons (same_stored (stored d c)) x xs in let q = one_other d x c n in
    let z = none c in omega (arith, p, q, z)
least_past d x xs (Some b) n some = (
  let p = num_cons (same_stored (stored d b)) x xs in let s = some.0 in omega (arith, p, s),
  λ c g. some.1 c (let p = num_cons (same_stored (stored d c)) x xs in let q = one_other d x c n in omega (arith, p, q, g)),
)

is_least : (d : ℕ) (l : List Stored) → Least d l (least d l)
is_least d [] = λ c. refl
is_least d (x ∷ xs) =
    cond_both (x.desk == d) (lesser x.block (least d xs)) (least d xs) (λ (o : Option ℕ). Least d (x ∷ xs) o)
    (λ t. least_lesser d x xs (least d xs) (eqb-true _ _ t) (is_least d xs)) (λ t. least_past d x xs (least d xs) (eqb-false _ _ t) (is_least d xs))

only_least : (d b : ℕ) (l : List Stored) (o : Option ℕ) → Least d l o → Least d l (Some b) → o ≡ Some b
only_least d b l None a e = absurd (let p = a b in let q = e.0 in omega (arith, p, q))
only_least d b l (Some c) a e = ap (λ (n : ℕ). Some n) (let p = a.1 b e.0 in let q = e.1 c a.0 in omega (arith, p, q))

no_least : (d : ℕ) (l : List Stored) (o : Option ℕ) → Least d l o → Least d l None → o ≡ None
no_least d l None a e = refl
no_least d l (Some c) a e = absurd (let p = a.0 in let q = e c in omega (arith, p, q))

in_all : (b c : ℕ) (l : List ℕ) → AllByRecursion (λ x. b ≤ x) l → 0 < in_list c l → b ≤ c
in_all b c [] all lt = absurd (omega arith)
in_all b c (x ∷ xs) all lt =
    ⊎_elim (λ (e : x ≡ c). let p = all.0 in omega (arith, e, p))
    (λ (n : x ≢ c). in_all b c xs all.1
    (let a = sum_by-cons (λ (y : ℕ). cond (y == c) 1 0) x xs in let t = cond-false {A = ℕ} (x == c) 1 0 (ne_eqb x c n) in omega (arith, a, t, lt)))
    (cases_eq x c)

-- the least of a list that has just the blocks of the store
pub least_stored : (d b : ℕ) (l : List Stored) (blocks : List ℕ) → ((c : ℕ) → num (same_stored (stored d c)) l ≡ in_list c blocks)
    → 0 < in_list b blocks
    → All (λ c. b ≤ c) blocks → least d l ≡ Some b
least_stored d b l blocks same lt all =
    let r = recursion_from_All (λ (c : ℕ). b ≤ c) blocks all in
    only_least d b l (least d l) (is_least d l)
    (let e = same b in omega (arith, e, lt), λ c g. in_all b c blocks r (let e = same c in omega (arith, e, g)))

pub none_stored : (d : ℕ) (l : List Stored) → ((c : ℕ) → num (same_stored (stored d c)) l ≡ 0) → least d l ≡ None
none_stored d l none = no_least d l (least d l) (is_least d l) none

-- it is told by the desk's own part
pub least_part : (d : ℕ) (l : List Stored) → least d l ≡ least d (filter (λ (x : Stored). x.desk == d) l)
least_part d [] = refl
least_part d (x ∷ xs) =
    let i = least_part d xs in
    let f = filter (λ (y : Stored). y.desk == d) xs in
    cond_both (x.desk == d) (x ∷ f) f (λ (r : List Stored). least d (x ∷ xs) ≡ least d r)
    (λ t. ap (λ (o : Option ℕ). cond (x.desk == d) (lesser x.block o) o) i) (λ t. cond-false (x.desk == d) (lesser x.block (least d xs))
    (least d xs) t ∙ i)
