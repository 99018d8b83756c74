-- Labels, pairs of them, and those of which something is so, one more at a time.
use Rattle.std.proofs.Common.{◌≡◌, ℕ, zero, suc, ◌+◌, ◌<◌, ◌==◌, Bool, true, false, cond, List, []}
use Rattle.std.proofs.Common.{◌∷◌, ◌++◌, length, take, drop, get_or, ◌-◌, map, refl, sym, ap}
use Rattle.std.proofs.Common.{subst, ◌∙◌, append_assoc, arith, length-append, inl, inr, eq-eqb}
use Rattle.std.proofs.Common.{true≢false}
use Rattle.owner_graph.proofs.Prelude.{append-nil, AreThose, AreWeakenings, cases_eq, cond-false}
use Rattle.owner_graph.proofs.Prelude.{cond-true, eqb-true, filter, flat_map, held_in, held_on}
use Rattle.owner_graph.proofs.Prelude.{Holding, homes, is_tie, knot_ties, label_pair, LabelPair}
use Rattle.owner_graph.proofs.Prelude.{new_labels, NoMore, pairs, pairs_at, row_at, Suffices}
use Rattle.owner_graph.proofs.Prelude.{take_more, twice, Vec, ◌≤◌}
use Rattle.owner_graph.specs.Weakenings.{ties_in}
use Rattle.std.specs.List.{list_any}
use Rattle.owner_graph.specs.Weakenings.AreThose.{NotOne, OneIs}
use Rattle.std.proofs.lemmas.List.Elements.{filter_more}
use Rattle.owner_graph.specs.Weakenings.AreWeakenings.{NoneSuffices, OneSuffices, TwoSuffice}

-- ---- those of which something is so

module _ {A : Type 0} (P : A → Type 0) where
  one_more : (xs ys : List A) (x : A) → AreThose P xs ys → P x
      → AreThose P (xs ++ x ∷ []) (ys ++ x ∷ [])
  one_more _ _ x NoMore is = OneIs x [] [] is NoMore
  one_more _ _ x (OneIs u xs ys was rest) is = OneIs u (xs ++ x ∷ []) (ys ++ x ∷ []) was
      (one_more xs ys x rest is)
  one_more _ _ x (NotOne u xs ys none rest) is = NotOne u (xs ++ x ∷ []) (ys ++ x ∷ []) none
      (one_more xs ys x rest is)

  none_more : (xs ys : List A) (x : A) → AreThose P xs ys → (P x → ⊥) → AreThose P (xs ++ x ∷ []) ys
  none_more _ _ x NoMore none = NotOne x [] [] none NoMore
  none_more _ _ x (OneIs u xs ys was rest) none = OneIs u (xs ++ x ∷ []) ys was
      (none_more xs ys x rest none)
  none_more _ _ x (NotOne u xs ys not rest) none = NotOne u (xs ++ x ∷ []) ys not
      (none_more xs ys x rest none)

  pub those_more : (xs ys ys' : List A) (i : ℕ) (d : A) → i < length xs → AreThose P (take i xs) ys
      → ys' ≡ ys ++ get_or xs i d ∷ []
      → P (get_or xs i d) → AreThose P (take (i + 1) xs) ys'
  those_more xs ys ys' i d lt so_far e is =
      subst (λ (l : List A). AreThose P l ys') (sym (take_more xs i d lt))
      (subst (AreThose P (take i xs ++ get_or xs i d ∷ [])) (sym e)
      (one_more (take i xs) ys (get_or xs i d) so_far is))

  pub those_no_more : (xs ys : List A) (i : ℕ) (d : A) → i < length xs → AreThose P (take i xs) ys
      → (P (get_or xs i d) → ⊥)
      → AreThose P (take (i + 1) xs) ys
  those_no_more xs ys i d lt so_far none =
      subst (λ (l : List A). AreThose P l ys) (sym (take_more xs i d lt))
      (none_more (take i xs) ys (get_or xs i d) so_far none)

-- ---- labels

next_label : (hs : List Holding) (labels : List ℕ) (i : ℕ) (d : Holding) → i < length hs
    → new_labels labels (drop i hs)
    ≡ cond (list_any (λ l. l == (get_or hs i d).label) labels) (new_labels labels (drop (suc i) hs))
    ((get_or hs i d).label ∷ new_labels (labels ++ (get_or hs i d).label ∷ []) (drop (suc i) hs))
next_label [] labels i d lt = absurd (omega arith)
next_label (h ∷ hs) labels zero d lt = refl
next_label (h ∷ hs) labels (suc i) d lt = next_label hs labels i d (omega arith)

-- a look at a copy of the labels
looked_up : (labels seen : List ℕ) (l : ℕ) (r b : Bool) → seen ≡ labels
    → r ≡ list_any (λ x. x == l) seen → r ≡ b
    → list_any (λ x. x == l) labels ≡ b
looked_up labels seen l r b same look is = ap (λ (ls : List ℕ). list_any (λ x. x == l) ls)
    (sym same) ∙ sym look ∙ is

pub label_known : (hs : List Holding) (labels seen : List ℕ) (i : ℕ) (d : Holding) (all : List ℕ)
    (r : Bool) → i < length hs
    → seen ≡ labels → r ≡ list_any (λ l. l == (get_or hs i d).label) seen → r ≡ true
    → all ≡ labels ++ new_labels labels (drop i hs) → all ≡ labels
    ++ new_labels labels (drop (i + 1) hs)
label_known hs labels seen i d all r lt same look on so_far =
    let is = looked_up labels seen (get_or hs i d).label r true same look on in
    let next : suc i ≡ i + 1 = omega arith in
    so_far ∙ ap (λ (l : List ℕ). labels ++ l) (next_label hs labels i d lt ∙ cond-true _ _ _ is
    ∙ ap (λ (k : ℕ). new_labels labels (drop k hs)) next)

pub label_new : (hs : List Holding) (labels seen labels' : List ℕ) (i : ℕ) (d : Holding)
    (all : List ℕ) (r : Bool) → i < length hs
    → seen ≡ labels → r ≡ list_any (λ l. l == (get_or hs i d).label) seen → r ≡ false
    → labels' ≡ labels ++ (get_or hs i d).label ∷ []
    → all ≡ labels ++ new_labels labels (drop i hs) → all ≡ labels'
    ++ new_labels labels' (drop (i + 1) hs)
label_new hs labels seen labels' i d all r lt same look off push so_far =
    let l = (get_or hs i d).label in
    let is = looked_up labels seen l r false same look off in
    let next : suc i ≡ i + 1 = omega arith in
    subst (λ (x : List ℕ). all ≡ x ++ new_labels x (drop (i + 1) hs)) (sym push)
    (so_far ∙ ap (λ (r : List ℕ). labels ++ r) (next_label hs labels i d lt ∙ cond-false _ _ _ is
    ∙ ap (λ (k : ℕ). l ∷ new_labels (labels ++ l ∷ []) (drop k hs)) next)
    ∙ sym (append_assoc labels (l ∷ []) (new_labels (labels ++ l ∷ []) (drop (i + 1) hs))))

-- ---- pairs

pub pairs_more : (l : ℕ) (ls : List ℕ) (all so_far next : List LabelPair) → all ≡ so_far
    ++ pairs (l ∷ ls)
    → next ≡ so_far ++ map (label_pair l) ls → all ≡ next ++ pairs ls
pairs_more l ls all so_far next p q =
    p ∙ sym (append_assoc so_far (map (label_pair l) ls) (pairs ls))
    ∙ ap (λ (x : List LabelPair). x ++ pairs ls) (sym q)

-- ---- rows of pairs

pairs_front : (rows : List (Vec LabelPair)) (v : Vec LabelPair) (k : ℕ) → k < length rows
    → pairs_at (rows ++ v ∷ []) k ≡ pairs_at rows k
pairs_front [] v k lt = absurd (omega (arith, lt))
pairs_front (r ∷ rs) v zero lt = refl
pairs_front (r ∷ rs) v (suc k) lt = pairs_front rs v k (omega (arith, lt))

pairs_last : (rows : List (Vec LabelPair)) (v : Vec LabelPair)
    → pairs_at (rows ++ v ∷ []) (length rows) ≡ v.items
pairs_last [] v = refl
pairs_last (r ∷ rs) v = pairs_last rs v

-- one row more
pub pairs_pushed : (P : ℕ → List LabelPair → Type 0) (rows rows' : List (Vec LabelPair))
    (v : Vec LabelPair) (n : ℕ) → rows' ≡ rows ++ v ∷ []
    → length rows ≡ n + 1 → ((k : ℕ) → 1 ≤ k → k ≤ n → P k (pairs_at rows k)) → P (n + 1) v.items
    → (length rows' ≡ n + 1 + 1) × ((k : ℕ) → 1 ≤ k → k ≤ n + 1 → P k (pairs_at rows' k))
pairs_pushed P rows rows' v n is size all here =
    let a = length-append rows (v ∷ []) in
    let e = ap (length {A = Vec LabelPair}) is in (
      omega (arith, a, e, size),
      λ k some le. subst (λ (l : List (Vec LabelPair)). P k (pairs_at l k)) (sym is)
          (elim (cases_eq k (n + 1)) [
            | inl same ↦
                subst (λ (m : ℕ). P m (pairs_at (rows ++ v ∷ []) m)) (size ∙ sym same)
                (subst (P (length rows)) (sym (pairs_last rows v))
                (subst (λ (m : ℕ). P m v.items) (sym size) here))
            | inr ne ↦
                subst (P k) (sym (pairs_front rows v k (omega (arith, le, ne, size))))
                (all k some (omega (arith, le, ne)))
          ]),
    )

-- ---- what passes a test, after what was there

pub passes_more : (p : Holding → Bool) (hs a b b' : List Holding) (i : ℕ) (d : Holding)
    → i < length hs → b ≡ a ++ filter p (take i hs)
    → p (get_or hs i d) ≡ true → b' ≡ b ++ get_or hs i d ∷ [] → b' ≡ a ++ filter p (take (i + 1) hs)
passes_more p hs a b b' i d lt so_far is push =
    let x = get_or hs i d in
    push ∙ ap (λ (l : List Holding). l ++ x ∷ []) so_far ∙ append_assoc a (filter p (take i hs))
    (x ∷ [])
    ∙ ap (λ (l : List Holding). a ++ l)
    (ap (λ (l : List Holding). filter p (take i hs) ++ l) (sym (cond-true (p x) (x ∷ []) [] is))
    ∙ sym (filter_more p hs i d lt))

pub passes_no_more : (p : Holding → Bool) (hs a b : List Holding) (i : ℕ) (d : Holding)
    → i < length hs → b ≡ a ++ filter p (take i hs)
    → p (get_or hs i d) ≡ false → b ≡ a ++ filter p (take (i + 1) hs)
passes_no_more p hs a b i d lt so_far is =
    let x = get_or hs i d in
    so_far ∙ ap (λ (l : List Holding). a ++ l)
    (sym (append-nil (filter p (take i hs)))
    ∙ ap (λ (l : List Holding). filter p (take i hs) ++ l) (sym (cond-false (p x) (x ∷ []) [] is))
    ∙ sym (filter_more p hs i d lt))

-- ---- pairs of what is left of a list

take_whole : (ls : List ℕ) → take (length ls) ls ≡ ls
take_whole [] = refl
take_whole (l ∷ ls) = ap (λ (r : List ℕ). l ∷ r) (take_whole ls)

pub pairs_next : (left : List ℕ) (all so_far next : List LabelPair) → 1 ≤ length left → all ≡ so_far
    ++ pairs left
    → next ≡ so_far ++ map (label_pair (get_or left 0 0)) (take (length left - 1) (drop 1 left))
    → all ≡ next ++ pairs (take (length left - 1) (drop 1 left))
pairs_next [] all so_far next some p q = absurd (omega (arith, some))
pairs_next (l ∷ ls) all so_far next some p q =
    let one : suc (length ls) - 1 ≡ length ls = omega arith in
    let whole : take (suc (length ls) - 1) ls ≡ ls = ap (λ (n : ℕ). take n ls) one
    ∙ take_whole ls in
    subst (λ (r : List ℕ). all ≡ next ++ pairs r) (sym whole)
    (pairs_more l ls all so_far next p (q ∙ ap (λ (r : List ℕ). so_far ++ map (label_pair l) r)
    whole))

pub pairs_done : (left : List ℕ) (all so_far : List LabelPair) → length left ≡ 0 → all ≡ so_far
    ++ pairs left → so_far ≡ all
pairs_done [] all so_far none p = sym (append-nil so_far) ∙ sym p
pairs_done (l ∷ ls) all so_far none p = absurd (omega (arith, none))

-- ---- what lets a knot end

pub filled : (n : ℕ) (r : Bool) → r ≡ (n == 0) → r ≡ false → 0 < n
filled n r is off = elim (cases_eq n 0) [
  | inl z ↦ absurd (true≢false (sym (eq-eqb n 0 z) ∙ sym is ∙ off))
  | inr ne ↦ omega (arith, ne)
]

pub emptied : (n : ℕ) (r : Bool) → r ≡ (n == 0) → r ≡ true → n ≡ 0
emptied n r is on = eqb-true n 0 (sym is ∙ on)

no_items : {A : Type 0} → (l : List A) → length l ≡ 0 → l ≡ []
no_items [] none = refl
no_items (x ∷ xs) none = absurd (omega (arith, none))

module _ (vertices : ℕ) (hs : List Holding) (knots : List ℕ) (least : ℕ) (labels : List ℕ) where
  pub one_suffices : (ones ws : List LabelPair) → ones ≡ map twice labels → 0 < length ws
      → AreThose (Suffices vertices hs knots least) ones ws → AreWeakenings vertices hs knots least
      labels ws
  one_suffices ones ws is some those =
      OneSuffices some (subst (λ (l : List LabelPair). AreThose (Suffices vertices hs knots least) l
      ws) is those)

  none_alone : (ones ws : List LabelPair) → ones ≡ map twice labels → length ws ≡ 0
      → AreThose (Suffices vertices hs knots least) ones ws
      → AreThose (Suffices vertices hs knots least) (map twice labels) []
  none_alone ones ws is none those =
      subst (λ (l : List LabelPair). AreThose (Suffices vertices hs knots least) l []) is
      (subst (AreThose (Suffices vertices hs knots least) ones) (no_items ws none) those)

  pub none_suffices : (ones ws : List LabelPair) → ones ≡ map twice labels → length ws ≡ 0
      → AreThose (Suffices vertices hs knots least) ones ws → 20 < length labels
      → AreWeakenings vertices hs knots least labels ws
  none_suffices ones ws is none those many = NoneSuffices (none_alone ones ws is none those) many
      (no_items ws none)

  pub two_suffice : (ones found twos ws : List LabelPair) → ones ≡ map twice labels
      → length found ≡ 0
      → AreThose (Suffices vertices hs knots least) ones found → length labels ≤ 20
      → twos ≡ pairs labels
      → AreThose (Suffices vertices hs knots least) twos ws → AreWeakenings vertices hs knots least
      labels ws
  two_suffice ones found twos ws is none those few pairs_are two =
      TwoSuffice (none_alone ones found is none those) few
      (subst (λ (l : List LabelPair). AreThose (Suffices vertices hs knots least) l ws) pairs_are
      two)

-- ---- the owners that tie a knot, by rows

flat_map_same : {A B : Type 0} (f g : A → List B) → ((x : A) → f x ≡ g x) → (xs : List A)
    → flat_map f xs ≡ flat_map g xs
flat_map_same f g same [] = refl
flat_map_same {A} {B} f g same (x ∷ xs) =
    ap (λ (l : List B). l ++ flat_map f xs) (same x)
    ∙ ap (λ (l : List B). g x ++ l) (flat_map_same f g same xs)

pub ties_by_rows : (vertices : ℕ) (hs : List Holding) (kept : List Bool) (knots : List ℕ)
    (rows : List (Vec Holding)) (members : List Holding)
    (least : ℕ) → ((b : ℕ) → row_at rows b ≡ held_in hs b)
    → members ≡ held_on (homes knots vertices) least
    → flat_map (λ (m : Holding). filter (is_tie kept knots) (row_at rows m.from))
    members ≡ knot_ties kept knots vertices hs least
ties_by_rows vertices hs kept knots rows members least are is =
    flat_map_same (λ (m : Holding). filter (is_tie kept knots) (row_at rows m.from))
    (ties_in kept knots hs)
    (λ m. ap (filter (is_tie kept knots)) (are m.from)) members
    ∙ ap (flat_map (ties_in kept knots hs)) is
