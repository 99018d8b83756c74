-- Sums over views with different names.
use Rattle.std.proofs.Common.{◌≡◌, ℕ, zero, suc, ◌+◌, ◌<◌, ◌≤◌, Bool, true, false, cond, ◌&&◌, ◌≢◌}
use Rattle.std.proofs.Common.{List, [], ◌∷◌, map, length, nat_lt, ◌==◌, sym, refl, ap, ◌∙◌, ⊎_elim}
use Rattle.std.proofs.Common.{arith, le-ltb, lt-ltb, eq-eqb, ne_eqb, eqb-true}
use Rattle.control_word.proofs.Prelude.{cases_eq, cases_lt, cond-false, cond-true, get_elem?, Held}
use Rattle.control_word.proofs.Prelude.{is_on, Kind, some, sum_below, tally, total, View}
use Rattle.control_word.proofs.history.Bounds.{tally_length}
use Rattle.control_word.proofs.lists.Tallies.{num, num_cons, tally_append}
use Rattle.control_word.proofs.words.Frames.{total_none}

total_sum : {A : Type 0} (f g k : A → ℕ) (l : List A) → ((a : A) → k a ≡ f a + g a) → total k l ≡ total f l + total g l
total_sum f g k [] h = refl
total_sum f g k (x ∷ xs) h = let a = h x in let b = total_sum f g k xs h in omega arith

-- a sum of which at most one term is not 0
total_once : {A : Type 0} (c : ℕ) (f : A → ℕ) (l : List A) → ((i : ℕ) (a : A) → get_elem? l i ≡ some a → f a ≤ c)
    → ((i j : ℕ) (a b : A) → get_elem? l i ≡ some a → get_elem? l j ≡ some b → 0 < f a → 0 < f b → i ≡ j) → total f l ≤ c
total_once c f [] one same = omega arith
total_once c f (x ∷ xs) one same =
    ⊎_elim
    (λ (e : f x ≡ 0). let t = total_once c f xs (λ i a e. one (suc i) a e)
    (λ i j a b p q m n. let u = same (suc i) (suc j) a b p q m n in omega arith) in omega arith)
    (λ (ne : f x ≢ 0).
    let t = total_none f xs (λ i a e. ⊎_elim (λ (q : f a ≡ 0). q)
    (λ (q : f a ≢ 0). absurd (let u = same 0 (suc i) x a refl e (omega arith) (omega arith) in omega arith)) (cases_eq (f a) 0)) in
    let u = one 0 x refl in omega arith) (cases_eq (f x) 0)

-- the numbers of views with different names are no more than those of all names
module _ {V : Type 0} (f : ℕ → ℕ) where
  pub named : ℕ → View V → ℕ
  named n v = cond v.spent 0 (cond (nat_lt v.name n) (f v.name) 0)

  named_at : ℕ → View V → ℕ
  named_at n v = cond v.spent 0 (cond (v.name == n) (f n) 0)

  named_step : (n : ℕ) (v : View V) → named (suc n) v ≡ named n v + named_at n v
  unfolding named named_at
  named_step n v = go v.spent
    where
      inner : (m : ℕ) → cond (nat_lt m (suc n)) (f m) 0 ≡ cond (nat_lt m n) (f m) 0 + cond (m == n) (f n) 0
      inner m = ⊎_elim
          (λ (e : m ≡ n).
          let a = cond-true (nat_lt m (suc n)) (f m) 0 (lt-ltb m (suc n) (omega arith)) in
          let b = cond-false (nat_lt m n) (f m) 0 (le-ltb m n (omega arith)) in
          let c = cond-true (m == n) (f n) 0 (eq-eqb m n e) in let d = ap f e in omega arith)
          (λ (ne : m ≢ n).
          let c : ◌≡◌ {A = ℕ} (cond (m == n) (f n) 0) 0 = cond-false (m == n) (f n) 0 (ne_eqb m n ne) in
          ⊎_elim
          (λ (l : m < n). let a = cond-true (nat_lt m (suc n)) (f m) 0 (lt-ltb m (suc n) (omega arith)) in
          let b = cond-true (nat_lt m n) (f m) 0 (lt-ltb m n l) in omega arith)
          (λ (l : n ≤ m). let a = cond-false (nat_lt m (suc n)) (f m) 0 (le-ltb m (suc n) (omega arith)) in
          let b = cond-false (nat_lt m n) (f m) 0 (le-ltb m n l) in omega arith)
          (cases_lt m n)) (cases_eq m n)

      go : (b : Bool) → cond b 0 (cond (nat_lt v.name (suc n)) (f v.name) 0) ≡ cond b 0 (cond (nat_lt v.name n) (f v.name) 0) + cond b 0 (cond
          (v.name == n) (f n) 0)
      go true = omega arith
      go false = inner v.name

  named_one : (n : ℕ) (v : View V) → (named_at n v ≤ f n) × (0 < named_at n v → (v.spent ≡ false) × (v.name ≡ n))
  unfolding named_at
  named_one n v = go v.spent (v.name == n) refl
    where
      go : (b c : Bool) → (v.name == n) ≡ c → (cond b 0 (cond c (f n) 0) ≤ f n) × (0 < cond b 0 (cond c (f n) 0) → (b ≡ false) × (v.name ≡ n))
      go true c e = (omega arith, λ t. absurd (omega arith))
      go false true e = (omega arith, λ t. (refl, eqb-true v.name n e))
      go false false e = (omega arith, λ t. absurd (omega arith))

  named_none : (v : View V) → named 0 v ≡ 0
  unfolding named
  named_none v = go v.spent
    where
      go : (b : Bool) → cond b 0 (cond (nat_lt v.name 0) (f v.name) 0) ≡ 0
      go true = refl
      go false = cond-false (nat_lt v.name 0) (f v.name) 0 (le-ltb v.name 0 (omega arith))

  pub named_awake : (n : ℕ) (v : View V) → v.spent ≡ false → v.name < n → named n v ≡ f v.name
  unfolding named
  named_awake n v e lt = cond-false v.spent 0 _ e ∙ cond-true (nat_lt v.name n) (f v.name) 0 (lt-ltb v.name n lt)

  pub names_sum : (n : ℕ) (views : List (View V))
      → ((i j : ℕ) (v w : View V) → get_elem? views i ≡ some v → get_elem? views j ≡ some w → v.spent ≡ false → w.spent ≡ false
      → v.name ≡ w.name → i ≡ j)
      → total (named n) views ≤ sum_below n f
  names_sum zero views names = let t = total_none (named 0) views (λ i v e. named_none v) in omega arith
  names_sum (suc n) views names =
      let ih = names_sum n views names in
      let t = total_sum (named n) (named_at n) (named (suc n)) views (λ v. named_step n v) in
      let u = total_once (f n) (named_at n) views (λ i v e. (named_one n v).0)
      (λ i j v w p q a b. let x = (named_one n v).1 a in let y = (named_one n w).1 b in names i j v w p q x.0 y.0 (x.1 ∙ sym y.1)) in
      omega arith

module _ {V : Type 0} where
  -- how many handles of the object the view's desk has
  pub own : Kind → ℕ → List Held → View V → ℕ
  own k o l v = cond v.spent 0 (num (λ x. x.desk == v.name && is_on k o x.handle) l)

  pub own_awake : (k : Kind) (o : ℕ) (l : List Held) (v : View V) → v.spent ≡ false
      → own k o l v ≡ num (λ x. x.desk == v.name && is_on k o x.handle) l
  unfolding own
  own_awake k o l v e = cond-false v.spent 0 _ e

  own_cons : (k : Kind) (o : ℕ) (x : Held) (l : List Held) (v : View V) → own k o (x ∷ l) v ≡ own k o (x ∷ []) v + own k o l v
  unfolding own
  own_cons k o x l v = go v.spent
    where
      go : (b : Bool) → cond b 0 (num (λ (y : Held). y.desk == v.name && is_on k o y.handle) (x ∷ l)) ≡ cond b 0 (num
          (λ (y : Held). y.desk == v.name && is_on k o y.handle) (x ∷ [])) + cond b 0 (num (λ (y : Held). y.desk == v.name && is_on k o y.handle) l)
      go true = omega arith
      go false = num_cons (λ (y : Held). y.desk == v.name && is_on k o y.handle) x l

  own_none : (k : Kind) (o : ℕ) (v : View V) → own k o [] v ≡ 0
  unfolding own
  own_none k o v = go v.spent
    where
      go : (b : Bool) → ◌≡◌ {A = ℕ} (cond b 0 0) 0
      go true = refl
      go false = refl

  -- one handle is the own of at most one view
  own_one : (k : Kind) (o : ℕ) (x : Held) (v : View V) → (own k o (x ∷ []) v ≤ tally k o (x.handle ∷ [])) × (0 < own k o (x ∷ []) v
      → (v.spent ≡ false) × ((x.desk == v.name) ≡ true))
  unfolding own
  own_one k o x v = go v.spent (x.desk == v.name) (is_on k o x.handle)
    where
      go : (b c d : Bool) → (cond b 0 (length (cond (c && d) (x ∷ []) [])) ≤ length (cond d (x.handle ∷ []) []))
          × (0 < cond b 0 (length (cond (c && d) (x ∷ []) [])) → (b ≡ false) × (c ≡ true))
      go true c d = (omega arith, λ t. absurd (omega arith))
      go false false d = (omega arith, λ t. absurd (omega arith))
      go false true true = (omega arith, λ t. (refl, refl))
      go false true false = (omega arith, λ t. absurd (omega arith))

  pub own_sum : (k : Kind) (o : ℕ) (l : List Held) (views : List (View V))
      → ((i j : ℕ) (v w : View V) → get_elem? views i ≡ some v → get_elem? views j ≡ some w → v.spent ≡ false → w.spent ≡ false
      → v.name ≡ w.name → i ≡ j)
      → total (own k o l) views ≤ tally k o (map (λ (x : Held). x.handle) l)
  own_sum k o [] views names = let t = total_none (own k o []) views (λ i v e. own_none k o v) in omega arith
  own_sum k o (x ∷ l) views names =
      let ih = own_sum k o l views names in
      let few = tally_length k o (x.handle ∷ []) in
      let one : total (own k o (x ∷ [])) views ≤ tally k o (x.handle ∷ []) =
      ⊎_elim
      (λ (e : tally k o (x.handle ∷ []) ≡ 0). let t = total_none (own k o (x ∷ [])) views (λ i v q. let u = (own_one k o x v).0 in omega arith) in
      omega arith)
      (λ (ne : tally k o (x.handle ∷ []) ≢ 0).
      let t = total_once 1 (own k o (x ∷ [])) views (λ i v q. let u = (own_one k o x v).0 in omega arith)
      (λ i j a b p q m n. let u = (own_one k o x a).1 m in
      let w = (own_one k o x b).1 n in names i j a b p q u.0 w.0 (sym (eqb-true x.desk a.name u.1) ∙ eqb-true x.desk b.name w.1)) in omega arith)
      (cases_eq (tally k o (x.handle ∷ [])) 0) in
      omega (
        arith,
        total_sum (own k o (x ∷ [])) (own k o l) (own k o (x ∷ l)) views (λ v. own_cons k o x l v),
        tally_append k o (x.handle ∷ []) (map
            (λ (y : Held). y.handle) l),
      )
