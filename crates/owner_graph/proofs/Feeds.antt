-- Owners that are left where some are weak, one more at a time, and the vertices that they are on.
use Rattle.std.proofs.Common.{◌≡◌, ◌≢◌, ◌↔◌, inl, inr, ◌⊎◌, ℕ, zero, suc, ◌+◌, ◌<◌, Bool, true}
use Rattle.std.proofs.Common.{false, true≢false, cond, List, [], ◌∷◌, length, take, get_or, set}
use Rattle.std.proofs.Common.{length-set, refl, sym, ap, subst, ◌∙◌, arith}
use Rattle.owner_graph.proofs.Prelude.{All, All-head, All-tail, cases_eq, Ended, EndsWithOwners}
use Rattle.owner_graph.proofs.Prelude.{HaveEnded, Holding, IsAmong, IsFed, marked, Owns}
use Rattle.owner_graph.proofs.Prelude.{slice_index_or, trues, without, ◌≤◌}
use Rattle.owner_graph.specs.Fed.{Feeds, IsFedBy, Starves}

-- ---- owners that are left

abbrev pub IsHere : (Holding → Bool) → Holding → ℕ → ℕ → Type 0
IsHere gone h a b = (gone h ≡ false) × (h.is_owner ≡ true) × (h.from ≡ a) × (h.to ≡ b)

module _ (gone : Holding → Bool) (a b : ℕ) where
  lift : (h : Holding) (t : Bool) (hs : List Holding) → Owns hs a b → Owns (cond t hs (h ∷ hs)) a b
  lift h true hs o = o
  lift h false hs o = inr o

  through : (h : Holding) (t : Bool) (hs hs' : List Holding) → (Owns hs a b → Owns hs' a b)
      → Owns (cond t hs (h ∷ hs)) a b → Owns (cond t hs' (h ∷ hs')) a b
  through h true hs hs' f o = f o
  through h false hs hs' f (inl o) = inl o
  through h false hs hs' f (inr o) = inr (f o)

  apart : {X : Type 0} → (h : Holding) (t : Bool) (hs hs' : List Holding)
      → (Owns hs' a b → Owns hs a b ⊎ X)
      → Owns (cond t hs' (h ∷ hs')) a b → Owns (cond t hs (h ∷ hs)) a b ⊎ X
  apart h true hs hs' f o = f o
  apart h false hs hs' f (inl o) = inl (inl o)
  apart h false hs hs' f (inr o) = elim (f o) [
    | inl p ↦ inl (inr p)
    | inr x ↦ inr x
  ]

  alone : (h : Holding) (t : Bool) → gone h ≡ t → Owns (cond t [] (h ∷ [])) a b → IsHere gone h a b
  alone h true is o = absurd o
  alone h false is (inl o) = (is, o.0, o.1, o.2)
  alone h false is (inr none) = absurd none

  pub owned_next : (hs : List Holding) (i : ℕ) (d : Holding) → i < length hs
      → Owns (without gone (take (suc i) hs)) a b
      → Owns (without gone (take i hs)) a b ⊎ IsHere gone (get_or hs i d) a b
  owned_next [] i d lt o = absurd (omega arith)
  owned_next (h ∷ hs) zero d lt o = inr (alone h (gone h) refl o)
  owned_next (h ∷ hs) (suc i) d lt o =
      apart h (gone h) (without gone (take i hs)) (without gone (take (suc i) hs))
      (owned_next hs i d (omega arith)) o

  pub owned_still : (hs : List Holding) (i : ℕ) → Owns (without gone (take i hs)) a b
      → Owns (without gone (take (suc i) hs)) a b
  owned_still [] zero o = absurd o
  owned_still [] (suc i) o = absurd o
  owned_still (h ∷ hs) zero o = absurd o
  owned_still (h ∷ hs) (suc i) o =
      through h (gone h) (without gone (take i hs)) (without gone (take (suc i) hs))
      (owned_still hs i) o

  pub owned_here : (hs : List Holding) (i : ℕ) (d : Holding) → i < length hs
      → IsHere gone (get_or hs i d) a b
      → Owns (without gone (take (suc i) hs)) a b
  owned_here [] i d lt o = absurd (omega arith)
  owned_here (h ∷ hs) zero d lt o = subst (λ (t : Bool). Owns (cond t [] (h ∷ [])) a b) (sym o.0)
      (inl (o.1, o.2, o.3))
  owned_here (h ∷ hs) (suc i) d lt o =
      lift h (gone h) (without gone (take (suc i) hs)) (owned_here hs i d (omega arith) o)

-- what is owned without some owners is owned
pub still_owned : (gone : Holding → Bool) (a b : ℕ) (hs : List Holding) → Owns (without gone hs) a b
    → Owns hs a b
still_owned gone a b [] o = absurd o
still_owned gone a b (h ∷ hs) o = split (gone h) (λ p. still_owned gone a b hs p) o
  where
    split : (t : Bool) → (Owns (without gone hs) a b → Owns hs a b)
        → Owns (cond t (without gone hs) (h ∷ without gone hs)) a b → Owns (h ∷ hs) a b
    split true f p = inr (f p)
    split false f (inl p) = inl p
    split false f (inr p) = inr (f p)

pub owner_among : (vertices : ℕ) (hs : List Holding) (a b : ℕ) → All (IsAmong vertices) hs
    → Owns hs a b → a ≤ vertices
owner_among vertices [] a b all o = absurd o
owner_among vertices (h ∷ hs) a b all (inl o) = subst (λ (x : ℕ). x ≤ vertices) o.1
    (All-head (IsAmong vertices) h hs all).0
owner_among vertices (h ∷ hs) a b all (inr o) = owner_among vertices hs a b
    (All-tail (IsAmong vertices) h hs all) o

-- ---- marks

set_here : (xs : List Bool) (k : ℕ) (v : Bool) → k < length xs
    → slice_index_or (set xs k v) k false ≡ v
set_here [] k v lt = absurd (omega arith)
set_here (x ∷ xs) zero v lt = refl
set_here (x ∷ xs) (suc k) v lt = set_here xs k v (omega arith)

set_else : (xs : List Bool) (k j : ℕ) (v : Bool) → k ≢ j
    → slice_index_or (set xs k v) j false ≡ slice_index_or xs j false
set_else [] k j v ne = refl
set_else (x ∷ xs) zero zero v ne = absurd (ne refl)
set_else (x ∷ xs) zero (suc j) v ne = refl
set_else (x ∷ xs) (suc k) zero v ne = refl
set_else (x ∷ xs) (suc k) (suc j) v ne = set_else xs k j v (λ e. ne (ap suc e))

-- ---- one handle more is read

abbrev pub AreFed : List Holding → List Bool → List Bool → Type 0
AreFed hs stays fed = (length fed ≡ length stays)
    × ((b : ℕ) → b < length stays → marked fed b ≡ true ↔ IsFedBy hs stays b)

module _ (gone : Holding → Bool) (hs : List Holding) (i k : ℕ) (d : Holding) (stays fed : List Bool)
    (lt : i < length hs)
    (is : k ≡ (get_or hs i d).to) (so_far : AreFed (without gone (take i hs)) stays fed) where
  next : i + 1 ≡ suc i
  next = omega arith

  old : (b : ℕ) → IsFedBy (without gone (take i hs)) stays b
      → IsFedBy (without gone (take (suc i) hs)) stays b
  old b f = (f.0, owned_still gone f.0 b hs i f.1, f.2)

  -- it feeds
  fed_now : k < length fed → Feeds gone stays (get_or hs i d)
      → AreFed (without gone (take (suc i) hs)) stays (set fed k true)
  fed_now inside f = (
    length-set fed k true ∙ so_far.0,
    λ b small. (
      λ yes. elim (cases_eq k b) [
        | inl same ↦ (
          (get_or hs i d).from,
          owned_here gone _ b hs i d lt (
            f.0,
            f.1,
            refl,
            sym is
                ∙ same,
          ),
          f.2,
        )
        | inr ne ↦ old b ((so_far.1 b small).0 (sym (set_else fed k b true ne) ∙ yes))
      ],
      λ by. elim (cases_eq k b) [
        | inl same ↦ subst (λ (j : ℕ). marked (set fed k true) j ≡ true) same
            (set_here fed k true inside)
        | inr ne ↦ set_else fed k b true ne ∙ (elim (owned_next gone by.0 b hs i d lt by.1) [
          | inl o ↦ (so_far.1 b small).1 (by.0, o, by.2)
          | inr h ↦ absurd (ne (is ∙ h.3))
        ])
      ],
    ),
  )

  -- it doesn't
  fed_else : (k < length fed → Feeds gone stays (get_or hs i d) → ⊥)
      → AreFed (without gone (take (suc i) hs)) stays fed
  fed_else none = (
    so_far.0,
    λ b small. (
      λ yes. old b ((so_far.1 b small).0 yes),
      λ by. elim (owned_next gone by.0 b hs i d lt by.1) [
        | inl o ↦ (so_far.1 b small).1 (by.0, o, by.2)
        | inr h ↦
            let size = so_far.0 in
            let at_ = h.3 in
            absurd (none (omega (arith, size, small, at_, is))
            (h.0, h.1, subst (λ (x : ℕ). marked stays x ≡ true) (sym h.2) by.2))
      ],
    ),
  )

  pub fed_more : k < length fed → Feeds gone stays (get_or hs i d)
      → AreFed (without gone (take (i + 1) hs)) stays (set fed k true)
  fed_more inside f = subst (λ (n : ℕ). AreFed (without gone (take n hs)) stays (set fed k true))
      (sym next) (fed_now inside f)

  pub fed_no_more : (k < length fed → Feeds gone stays (get_or hs i d) → ⊥)
      → AreFed (without gone (take (i + 1) hs)) stays fed
  fed_no_more none = subst (λ (n : ℕ). AreFed (without gone (take n hs)) stays fed) (sym next)
      (fed_else none)

-- ---- fewer stay

pub trues_less : (xs : List Bool) (k : ℕ) → slice_index_or xs k false ≡ true
    → trues (set xs k false) < trues xs
trues_less [] k is = absurd (true≢false (sym is))
trues_less (true ∷ xs) zero is = omega arith
trues_less (false ∷ xs) zero is = absurd (true≢false (sym is))
trues_less (true ∷ xs) (suc k) is = let l = trues_less xs k is in omega (arith, l)
trues_less (false ∷ xs) (suc k) is = trues_less xs k is

-- up to n each was read, and so many are fewer where one was found
pub record HasStarved (fed old now : List Bool) (n : ℕ) (found : Bool) : Type 0 where
  pub starves : Starves fed old now
  pub less : found ≡ true → trues now < trues old
  pub none : found ≡ false → (now ≡ old) × ((b : ℕ) → b < n → b ≢ 0 → marked old b ≡ true
      → marked fed b ≡ true)

module _ (fed old now : List Bool) (n : ℕ) (found : Bool) (so_far : HasStarved fed old now n found)
  where
    pub starved_one : n ≢ 0 → n < length now → marked now n ≡ true → marked fed n ≡ false
        → HasStarved fed old (set now n false) (n + 1) true
    starved_one some lt is unfed = record {
      starves = record {
        size = length-set now n false ∙ so_far.starves.size;
        off = λ b gone. elim (cases_eq n b) [
          | inl same ↦ inr (λ e. some (same ∙ e), subst (λ (j : ℕ). marked fed j ≡ false) same unfed)
          | inr ne ↦ so_far.starves.off b (sym (set_else now n b false ne) ∙ gone)
        ];
      };
      less = λ _. fewer found refl;
      none = λ e. absurd (true≢false e);
    }
      where
        fewer : (t : Bool) → found ≡ t → trues (set now n false) < trues old
        fewer true e =
            let l = trues_less now n is in
            let m = so_far.less e in
            omega (arith, l, m)
        fewer false e = subst (λ (l : List Bool). trues (set now n false) < trues l) (so_far.none e).0
            (trues_less now n is)

    pub starved_skip : (n ≢ 0 → marked now n ≡ true → marked fed n ≡ true)
        → HasStarved fed old now (n + 1) found
    starved_skip here = record {
      starves = so_far.starves;
      less = so_far.less;
      none = λ e.
          let r = so_far.none e in (
            r.0,
            λ b lt ne is. elim (cases_eq b n) [
              | inl same ↦
                  subst (λ (j : ℕ). marked fed j ≡ true) (sym same)
                  (here (λ z. ne (same ∙ z)) (subst (λ (l : List Bool). marked l n ≡ true) (sym r.0)
                  (subst (λ (j : ℕ). marked old j ≡ true) same is)))
              | inr other ↦ r.1 b (omega (arith, lt, other)) ne is
            ],
          );
    }

in_range : (xs : List Bool) (k : ℕ) → slice_index_or xs k false ≡ true → k < length xs
in_range [] k is = absurd (true≢false (sym is))
in_range (x ∷ xs) zero is = omega arith
in_range (x ∷ xs) (suc k) is = let l = in_range xs k is in omega (arith, l)

unmarked : (t : Bool) → (t ≡ true → ⊥) → t ≡ false
unmarked true h = absurd (h refl)
unmarked false h = refl

-- ---- what stays

module _ (vertices : ℕ) (gone : Holding → Bool) (hs : List Holding) (stays fed : List Bool)
    (all : All (IsAmong vertices) hs)
    (size : length stays ≡ vertices + 1) (is_fed : IsFed (without gone hs) stays fed)
    (so_far : HaveEnded vertices (without gone hs) stays) where
  pub ended_more : (now : List Bool) → Starves fed stays now → HaveEnded vertices (without gone hs)
      now
  ended_more now st b le off_now = elim (st.off b off_now) [
    | inl was ↦ so_far b le was
    | inr x ↦
        Ended b x.0 (λ a o.
        so_far a (owner_among vertices hs a b all (still_owned gone a b hs o))
        (unmarked (marked stays a)
        (λ is. true≢false (sym ((is_fed.marks b (omega (arith, le, size))).1 (a, o, is)) ∙ x.1))))
  ]

  stuck : ((b : ℕ) → b ≢ 0 → marked stays b ≡ true → marked fed b ≡ true) → (b : ℕ)
      → EndsWithOwners (without gone hs) b
      → marked stays b ≡ true → ⊥
  stuck none _ (Ended b ne f) is =
      let l = in_range stays b is in
      let by = (is_fed.marks b l).0 (none b ne is) in
      stuck none by.0 (f by.0 by.1) by.2

  pub stay_or_end : ((b : ℕ) → b ≢ 0 → marked stays b ≡ true → marked fed b ≡ true)
      → (b : ℕ) → b ≤ vertices → marked stays b ≡ false ↔ EndsWithOwners (without gone hs) b
  stay_or_end none b le = (so_far b le, λ e. unmarked (marked stays b) (stuck none b e))
