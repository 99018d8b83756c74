-- Steps by which vertices of one label are reached, and what they show.
use Rattle.std.proofs.Common.{◌≡◌, ◌≢◌, inl, inr, ◌⊎◌, ℕ, zero, suc, ◌+◌, ◌<◌, Bool, true, false}
use Rattle.std.proofs.Common.{true≢false, ◌↔◌, List, [], ◌∷◌, ◌++◌, length, get_or, refl, sym, ap}
use Rattle.std.proofs.Common.{subst, ◌∙◌, ⊎_elim, arith, length-append}
use Rattle.owner_graph.proofs.Prelude.{All, All-head, All-tail, AreInner, AreLow, AreRanked, at}
use Rattle.owner_graph.proofs.Prelude.{cases_eq, cases_lt, Down, Holding, InnerStep, IsAmong}
use Rattle.owner_graph.proofs.Prelude.{IsLeast, KeepEachOther, KnotsAre, OwnersLead, Owns}
use Rattle.owner_graph.proofs.Prelude.{slice_index_or, Up, Within, ◌≤◌}
use Rattle.owner_graph.specs.Labels.{IsRanked, step}
use Rattle.owner_graph.proofs.LabelLemmas.{is_least, led_among}

owns_end : (xs : List Holding) (h : Holding) (a b : ℕ) → Owns (xs ++ h ∷ []) a b
    → Owns xs a b ⊎ ((h.is_owner ≡ true) × (h.from ≡ a) × (h.to ≡ b))
owns_end [] h a b (inl o) = inr o
owns_end [] h a b (inr none) = absurd none
owns_end (x ∷ xs) h a b (inl o) = inl (inl o)
owns_end (x ∷ xs) h a b (inr o) = elim (owns_end xs h a b o) [
  | inl p ↦ inl (inr p)
  | inr q ↦ inr q
]

-- one step more
inner_more : (hs : List Holding) (labels : List ℕ) (xs : List Holding) (h : Holding)
    → AreInner hs labels xs
    → (h.is_owner ≡ true → InnerStep hs labels h.from h.to) → AreInner hs labels (xs ++ h ∷ [])
inner_more hs labels xs h all here a b o = elim (owns_end xs h a b o) [
  | inl p ↦ all a b p
  | inr q ↦ subst (λ (x : ℕ). InnerStep hs labels x b) q.1
      (subst (λ (y : ℕ). InnerStep hs labels h.from y) q.2 (here q.0))
]

abbrev down_step : ℕ → Holding
down_step n = step 0 n

abbrev up_step : ℕ → Holding
up_step n = step n 0

-- from 0 to a vertex that is its own label, and back
pub ends_more : (hs : List Holding) (labels : List ℕ) (n : ℕ) (xs ys zs : List Holding) → 1 ≤ n
    → at labels n ≡ n
    → ys ≡ xs ++ down_step n ∷ [] → zs ≡ ys ++ up_step n ∷ []
    → AreInner hs labels xs → AreInner hs labels zs
ends_more hs labels n xs ys zs some own one two all =
    let ne : n ≢ 0 = λ e. absurd (omega (arith, e, some)) in
    subst (AreInner hs labels) (sym two) (inner_more hs labels ys (up_step n)
    (subst (AreInner hs labels) (sym one)
    (inner_more hs labels xs (down_step n) all (λ is. Down refl ne own)))
    (λ is. Up ne refl own))

-- an owner within vertices of one label
pub within_more : (hs : List Holding) (labels : List ℕ) (h : Holding) (xs ys : List Holding)
    → h.from ≢ 0 → h.to ≢ 0
    → at labels h.from ≡ at labels h.to → ys ≡ xs ++ h ∷ []
    → (h.is_owner ≡ true → Owns hs h.from h.to) → AreInner hs labels xs → AreInner hs labels ys
within_more hs labels h xs ys from to same is owns all =
    subst (AreInner hs labels) (sym is)
    (inner_more hs labels xs h all (λ o. Within from to same (owns o)))

-- an owner that is listed owns
pub owned_at : (hs : List Holding) (i : ℕ) (d : Holding) → i < length hs
    → (get_or hs i d).is_owner ≡ true
    → Owns hs ((get_or hs i d).from) (get_or hs i d).to
owned_at [] i d lt o = absurd (omega arith)
owned_at (h ∷ hs) zero d lt o = inl (o, refl, refl)
owned_at (h ∷ hs) (suc i) d lt o = inr (owned_at hs i d (omega arith) o)

all_ranked : (ranks : List ℕ) (hs : List Holding) → All (IsRanked ranks) hs → AreRanked hs ranks
all_ranked ranks [] all a b o = absurd o
all_ranked ranks (h ∷ hs) all a b (inl o) =
    let r = All-head (IsRanked ranks) h hs all o.0 in (
      λ e. r.0 (o.2 ∙ e),
      λ ne.
          subst (λ (x : ℕ). at ranks x ≤ at ranks b) o.1
          (subst (λ (y : ℕ). at ranks h.from ≤ at ranks y) o.2 (r.1 (λ e. ne (sym o.1 ∙ e)))),
    )
all_ranked ranks (h ∷ hs) all a b (inr o) = all_ranked ranks hs (All-tail (IsRanked ranks) h hs all)
    a b o

pub knots_are : (vertices : ℕ) (hs : List Holding) (ranks labels : List ℕ) (steps : List Holding)
    → All (IsAmong vertices) hs
    → length labels ≡ vertices + 1
    → ((a b : ℕ) → a ≤ vertices → b ≤ vertices → at ranks a ≡ at ranks b
    → at labels a ≡ at labels b)
    → All (IsRanked ranks) hs → AreLow vertices labels → AreInner hs labels steps
    → ((b : ℕ) → 1 ≤ b → b ≤ vertices → OwnersLead steps 0 b)
    → ((b : ℕ) → 1 ≤ b → b ≤ vertices → OwnersLead steps b 0)
    → KnotsAre vertices hs labels
knots_are vertices hs ranks labels steps all size alike ranked low inner down up = record {
  size = size;
  each = is_least hs labels steps inner vertices ranks all (all_ranked ranks hs ranked) alike low
      down up;
}

-- ---- what is so of each number up to n, and of one more

pub next_below : (P : ℕ → Type 0) (n : ℕ) → ((b : ℕ) → b < n → P b) → P n → (b : ℕ) → b < n + 1
    → P b
next_below P n before here b lt =
    ⊎_elim (λ (same : b ≡ n). subst P (sym same) here)
    (λ (ne : b ≢ n). before b (omega (arith, lt, ne))) (cases_eq b n)

pub next_low : (P : ℕ → Type 0) (n : ℕ) → ((b : ℕ) → 1 ≤ b → b ≤ n → P b) → P (n + 1) → (b : ℕ)
    → 1 ≤ b → b ≤ n + 1 → P b
next_low P n before here b some le =
    ⊎_elim (λ (same : b ≡ n + 1). subst P (sym same) here)
    (λ (ne : b ≢ n + 1). before b some (omega (arith, le, ne))) (cases_eq b (n + 1))

at_pushed_in : (P : ℕ → ℕ → Type 0) (xs : List ℕ) (x : ℕ)
    → ((k : ℕ) → k < length xs → P k (slice_index_or xs k 0)) → P (length xs) x
    → (k : ℕ) → k < suc (length xs) → P k (slice_index_or (xs ++ x ∷ []) k 0)
at_pushed_in P [] x all here zero lt = here
at_pushed_in P [] x all here (suc k) lt = absurd (omega (arith, lt))
at_pushed_in P (y ∷ ys) x all here zero lt = all 0 (omega arith)
at_pushed_in P (y ∷ ys) x all here (suc k) lt =
    at_pushed_in (λ m b. P (suc m) b) ys x (λ j l. all (suc j) (omega (arith, l))) here k
    (omega (arith, lt))

-- one more at the end of a list
pub at_pushed : (P : ℕ → ℕ → Type 0) (xs ys : List ℕ) (x n : ℕ) → ys ≡ xs ++ x ∷ [] → length xs ≡ n
    → ((k : ℕ) → k < n → P k (slice_index_or xs k 0)) → P n x
    → (length ys ≡ n + 1) × ((k : ℕ) → k < n + 1 → P k (slice_index_or ys k 0))
at_pushed P xs ys x n is size all here =
    let a = length-append xs (x ∷ []) in
    let e = ap (length {A = ℕ}) is in (
      omega (arith, a, e, size),
      λ k lt.
          subst (λ (l : List ℕ). P k (slice_index_or l k 0)) (sym is)
          (at_pushed_in P xs x (λ j l. all j (omega (arith, l, size)))
          (subst (λ (m : ℕ). P m x) (sym size) here) k (omega (arith, lt, size))),
    )

-- ---- what lists have at a place

pub own_label : (labels : List ℕ) (f g r n : ℕ) → f ≡ n → g ≡ n → r ≡ at labels f → r ≡ g
    → at labels n ≡ n
own_label labels f g r n e1 e2 is own = ap (at labels) (sym e1) ∙ sym is ∙ own ∙ e2

pub not_zero : (r n : ℕ) → r ≡ n → 0 < r → n ≢ 0
not_zero r n e some zero_ = absurd (omega (arith, e, some, zero_))

pub same_at : {A : Type 0} → (xs : List A) (k : ℕ) (d e : A) → k < length xs
    → get_or xs k d ≡ get_or xs k e
same_at [] k d e lt = absurd (omega arith)
same_at (x ∷ xs) zero d e lt = refl
same_at (x ∷ xs) (suc k) d e lt = same_at xs k d e (omega arith)

pub false_at : (xs : List Bool) (k n : ℕ) (r : Bool) → k ≡ n → r ≡ get_or xs (k + 1) r → r ≡ false
    → get_or xs (n + 1) false ≡ false
false_at xs k n r is e f =
    subst (λ (m : ℕ). get_or xs (m + 1) false ≡ false) is
    (sym (subst (λ (t : Bool). t ≡ get_or xs (k + 1) t) f e))

pub true_at : (xs : List Bool) (k n : ℕ) (r : Bool) → k ≡ n → n + 1 < length xs
    → r ≡ get_or xs (k + 1) r → r ≡ true
    → get_or xs (n + 1) false ≡ true
true_at xs k n r is lt e t =
    same_at xs (n + 1) false true lt
    ∙ subst (λ (m : ℕ). get_or xs (m + 1) true ≡ true) is
    (sym (subst (λ (b : Bool). b ≡ get_or xs (k + 1) b) t e))

pub low_at : (labels : List ℕ) (k n label : ℕ) → k ≡ n → label ≡ at labels (k + 1) → (label ≡ 0 → ⊥)
    → label ≤ k + 1
    → (1 ≤ at labels (n + 1)) × (at labels (n + 1) ≤ n + 1)
low_at labels k n label is e ne le =
    subst (λ (m : ℕ). (1 ≤ at labels (m + 1)) × (at labels (m + 1) ≤ m + 1)) is
    (subst (λ (l : ℕ). (1 ≤ l) × (l ≤ k + 1)) e (omega (arith, ne), le))

-- ---- the least vertex that is marked

module _ (vertices : ℕ) (hs : List Holding) (marks : List Bool) (b : ℕ)
    (all : All (IsAmong vertices) hs) (within : b ≤ vertices)
    (known : (a : ℕ) → a ≤ vertices → slice_index_or marks a false ≡ true
    ↔ (OwnersLead hs b a × OwnersLead hs a b)) where
  later : (n a : ℕ) → ((k : ℕ) → 1 ≤ k → k ≤ n → slice_index_or marks k false ≡ false) → 1 ≤ a
      → KeepEachOther hs b a → n + 1 ≤ a
  later n a none one both =
      let le : a ≤ vertices = led_among vertices hs b both.0.0 a all within both.0.1 in
      elim (cases_lt n a) [
        | inl big ↦ omega (arith, big)
        | inr small ↦ absurd (true≢false (sym ((known a le).1 both) ∙ none a one small))
      ]

  pub least_is : (n : ℕ) → n < vertices
      → ((k : ℕ) → 1 ≤ k → k ≤ n → slice_index_or marks k false ≡ false)
      → slice_index_or marks (n + 1) false ≡ true → IsLeast hs b (n + 1)
  least_is n lt none mark = record {
    some = omega arith;
    knotted = (known (n + 1) (omega (arith, lt))).0 mark;
    first = λ a one both. later n a none one both;
  }

  pub none_is : {A : Type 0} → 1 ≤ b
      → ((k : ℕ) → 1 ≤ k → k ≤ vertices → slice_index_or marks k false ≡ false) → A
  none_is some none = absurd (true≢false (sym ((known b within).1 (([], refl), ([], refl)))
      ∙ none b some within))

-- labels that ranks give are the same where these are
pub same_labels : (firsts ranks ranks' labels labels' : List ℕ) (vertices : ℕ) → ranks' ≡ ranks
    → labels' ≡ labels
    → ((b : ℕ) → b ≤ vertices → at labels b ≡ at firsts (at ranks b))
    → (a b : ℕ) → a ≤ vertices → b ≤ vertices → at ranks' a ≡ at ranks' b
    → at labels' a ≡ at labels' b
same_labels firsts ranks ranks' labels labels' vertices r l each a b la lb same =
    let e : at ranks a ≡ at ranks b = subst (λ (x : List ℕ). at x a ≡ at x b) r same in
    subst (λ (x : List ℕ). at x a ≡ at x b) (sym l) (each a la ∙ ap (at firsts) e ∙ sym (each b lb))

pub label_same : (knots : List ℕ) (f n g b r l : ℕ) → f ≡ n → g ≡ b → r ≡ at knots (f + 1)
    → l ≡ at knots g → r ≡ l
    → at knots (n + 1) ≡ at knots b
label_same knots f n g b r l e1 e2 r_is l_is same =
    ap (λ (m : ℕ). at knots (m + 1)) (sym e1) ∙ sym r_is ∙ same ∙ l_is ∙ ap (at knots) e2

marks_pushed_in : (P : ℕ → Bool → Type 0) (xs : List Bool) (x : Bool)
    → ((k : ℕ) → k < length xs → P k (slice_index_or xs k false))
    → P (length xs) x → (k : ℕ) → k < suc (length xs) → P k (slice_index_or (xs ++ x ∷ []) k false)
marks_pushed_in P [] x all here zero lt = here
marks_pushed_in P [] x all here (suc k) lt = absurd (omega (arith, lt))
marks_pushed_in P (y ∷ ys) x all here zero lt = all 0 (omega arith)
marks_pushed_in P (y ∷ ys) x all here (suc k) lt =
    marks_pushed_in (λ m b. P (suc m) b) ys x (λ j l. all (suc j) (omega (arith, l))) here k
    (omega (arith, lt))

-- one mark more at the end of a list
pub marks_pushed : (P : ℕ → Bool → Type 0) (xs ys : List Bool) (x : Bool) (n : ℕ) → ys ≡ xs
    ++ x ∷ [] → length xs ≡ n
    → ((k : ℕ) → k < n → P k (slice_index_or xs k false)) → P n x
    → (length ys ≡ n + 1) × ((k : ℕ) → k < n + 1 → P k (slice_index_or ys k false))
marks_pushed P xs ys x n is size all here =
    let a = length-append xs (x ∷ []) in
    let e = ap (length {A = Bool}) is in (
      omega (arith, a, e, size),
      λ k lt.
          subst (λ (l : List Bool). P k (slice_index_or l k false)) (sym is)
          (marks_pushed_in P xs x (λ j l. all j (omega (arith, l, size)))
          (subst (λ (m : ℕ). P m x) (sym size) here) k (omega (arith, lt, size))),
    )
