-- The vertices of knots, as they are listed.
use Rattle.std.proofs.Common.{◌≡◌, ◌↔◌, inl, inr, ℕ, zero, suc, ◌+◌, ◌==◌, Bool, true, false, cond}
use Rattle.std.proofs.Common.{List, [], ◌∷◌, ◌++◌, refl, sym, ap, subst, ◌∙◌, arith, eq-eqb}
use Rattle.owner_graph.proofs.Prelude.{All, All-cons, All-head, All-nil, All-tail, at, cases_eq}
use Rattle.owner_graph.proofs.Prelude.{cond-true, EndsWithOwners, held_on, Holding, homes}
use Rattle.owner_graph.proofs.Prelude.{is_weakened, IsAmong, without, ◌≤◌}
use Rattle.owner_graph.specs.Members.{home}
use Rattle.owner_graph.specs.declared.weakening.Weakening.TheVariants.{Nobody}

-- what is so of all of two lists is so of all of the first, and of the second
pub all_front : {A : Type 0} (P : A → Type 0) (xs ys : List A) → All P (xs ++ ys) → All P xs
all_front P [] ys all = All-nil P
all_front P (x ∷ xs) ys all =
    All-cons P x xs (All-head P x (xs ++ ys) all) (all_front P xs ys (All-tail P x (xs ++ ys) all))

pub all_back : {A : Type 0} (P : A → Type 0) (xs ys : List A) → All P (xs ++ ys) → All P ys
all_back P [] ys all = all
all_back P (x ∷ xs) ys all = all_back P xs ys (All-tail P x (xs ++ ys) all)

pub held_append : (xs ys : List Holding) (b : ℕ) → held_on (xs ++ ys) b ≡ held_on xs b
    ++ held_on ys b
held_append [] ys b = refl
held_append (x ∷ xs) ys b = go (x.to == b) (held_append xs ys b)
  where
    go : (t : Bool) → held_on (xs ++ ys) b ≡ held_on xs b ++ held_on ys b
        → cond t (x ∷ held_on (xs ++ ys) b) (held_on (xs ++ ys) b) ≡ cond t (x ∷ held_on xs b)
        (held_on xs b) ++ held_on ys b
    go true e = ap (λ (l : List Holding). x ∷ l) e
    go false e = e

module _ (P : Holding → Type 0) (knots : List ℕ) (k : ℕ) where
  -- a vertex of the knot is among its vertices
  pub home_listed : (n : ℕ) → All P (held_on (homes knots n) k) → (b : ℕ) → 1 ≤ b → b ≤ n
      → at knots b ≡ k → P (home knots b)
  home_listed zero all b one within same = absurd (omega (arith, one, within))
  home_listed (suc n) all b one within same =
      let split : All P (held_on (homes knots n) k ++ held_on (home knots (suc n) ∷ []) k) =
      subst (All P) (held_append (homes knots n) (home knots (suc n) ∷ []) k) all in
      elim (cases_eq b (suc n)) [
        | inl e ↦
            let last : All P (held_on (home knots (suc n) ∷ []) k) =
            all_back P (held_on (homes knots n) k) (held_on (home knots (suc n) ∷ []) k) split in
            let here : at knots (suc n) ≡ k = ap (at knots) (sym e) ∙ same in
            subst (λ (m : ℕ). P (home knots m)) (sym e)
            (All-head P (home knots (suc n)) []
            (subst (All P) (cond-true (at knots (suc n) == k) (home knots (suc n) ∷ []) []
            (eq-eqb (at knots (suc n)) k here)) last))
        | inr ne ↦
            home_listed n (all_front P (held_on (homes knots n) k)
            (held_on (home knots (suc n) ∷ []) k) split) b one (omega (arith, within, ne)) same
      ]

-- one vertex more
pub homes_more : (knots : List ℕ) (n m k : ℕ) (x : Holding) (old new : List Holding)
    → old ≡ homes knots n → new ≡ old ++ x ∷ []
    → x ≡ home knots k → k ≡ n + 1 → m ≡ n + 1 → new ≡ homes knots m
homes_more knots n m k x old new e push is at_ to =
    push ∙ ap (λ (l : List Holding). l ++ x ∷ []) e
    ∙ ap (λ (h : Holding). homes knots n ++ h ∷ []) (is ∙ ap (home knots) (at_ ∙ next))
    ∙ ap (homes knots) (sym (to ∙ next))
  where
    next : n + 1 ≡ suc n
    next = omega arith

-- where none is weak, none is left out
pub with_all : (knots : List ℕ) (hs : List Holding) → without (is_weakened knots Nobody) hs ≡ hs
with_all knots [] = refl
with_all knots (h ∷ hs) = ap (λ (l : List Holding). h ∷ l) (with_all knots hs)

pub none_weak : (knots : List ℕ) (hs : List Holding) (b : ℕ) (off : Type 0) → off
    ↔ EndsWithOwners (without (is_weakened knots Nobody) hs) b
    → off ↔ EndsWithOwners hs b
none_weak knots hs b off both = subst (λ (l : List Holding). off ↔ EndsWithOwners l b)
    (with_all knots hs) both

pub home_among : (knots : List ℕ) (vertices b : ℕ) (x : Holding) → x ≡ home knots b
    → ((a : ℕ) → 1 ≤ a → a ≤ vertices → at knots a ≤ vertices)
    → 1 ≤ b → b ≤ vertices → IsAmong vertices x
home_among knots vertices b x is low one within = subst (IsAmong vertices) (sym is)
    (within, low b one within)
