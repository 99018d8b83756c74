-- How a change of the hands or of an object changes the counts.
use Rattle.std.proofs.Common.{◌≡◌, ℕ, zero, suc, ◌+◌, ◌<◌, Bool, true, false, cond, ◌&&◌, ◌≢◌}
use Rattle.std.proofs.Common.{List, [], ◌∷◌, ◌++◌, map, length, ◌==◌, Some, None, Option, sym}
use Rattle.std.proofs.Common.{refl, ap, ◌∙◌, subst, inl, inr, ⊎_elim, arith, length-append, eq-eqb}
use Rattle.std.proofs.Common.{ne_eqb, eqb-true}
use Rattle.control_word.proofs.Prelude.{and_from, and_parts, cases_eq, cond-false, cond-true}
use Rattle.control_word.proofs.Prelude.{cond_both, equivalent, filter, fun_ext, handle, Has, Held}
use Rattle.control_word.proofs.Prelude.{how_often, is_on, Kind, NumberedHandle, Owner, Place, put}
use Rattle.control_word.proofs.Prelude.{same_held, same_kind, same_number, same_place, same_stored}
use Rattle.control_word.proofs.Prelude.{Stored, stored, tally, upto, Weak, without}
use Rattle.std.proofs.lemmas.List.Elements.{filter-append}
use Rattle.std.proofs.lemmas.Bool.{both_ways}
use Rattle.control_word.specs.Handles.{same_handle}

module _ {A : Type 0} where
  pub put_same : (f : ℕ → A) (i : ℕ) (x : A) (j : ℕ) → j ≡ i → put f i x j ≡ x
  put_same f i x j e = cond-true _ x (f j) (eq-eqb j i e)

  pub put_other : (f : ℕ → A) (i : ℕ) (x : A) (j : ℕ) → j ≢ i → put f i x j ≡ f j
  put_other f i x j n = cond-false _ x (f j) (ne_eqb j i n)

  -- what holds of x at i, and of f elsewhere, holds of the changed function
  pub put_cases : (P : ℕ → A → Type 0) (f : ℕ → A) (i : ℕ) (x : A) (j : ℕ) → (j ≡ i → P j x)
      → (j ≢ i → P j (f j)) → P j (put f i x j)
  put_cases P f i x j here else = ⊎_elim (λ e. subst (P j) (sym (put_same f i x j e)) (here e))
      (λ n. subst (P j) (sym (put_other f i x j n)) (else n)) (cases_eq j i)

  pub put_again : (f : ℕ → A) (i : ℕ) → put f i (f i) ≡ f
  put_again f i = fun_ext (λ j. put_cases (λ k y. y ≡ f k) f i (f i) j (λ e. ap f (sym e)) (λ n. refl))

pub same_kind_true : (a b : Kind) → same_kind a b ≡ true → a ≡ b
same_kind_true Owner Owner e = refl
same_kind_true Owner Weak e = cc
same_kind_true Weak Owner e = cc
same_kind_true Weak Weak e = refl

pub same_number_true : (a b : Option ℕ) → same_number a b ≡ true → a ≡ b
same_number_true None None e = refl
same_number_true None (Some y) e = cc
same_number_true (Some x) None e = cc
same_number_true (Some x) (Some y) e = ap Some (eqb-true x y e)

place_true : (x y : Place) → (x.block.0 == y.block.0 && x.field == y.field) ≡ true → x ≡ y
place_true x y e = let t = and_parts _ _ e in let p = eqb-true _ _ t.0 in let q = eqb-true _ _ t.1 in λ i. record { block = record { 0 = p i }; field = q i }

pub same_place_true : (a b : Option Place) → same_place a b ≡ true → a ≡ b
same_place_true None None e = refl
same_place_true None (Some y) e = cc
same_place_true (Some x) None e = cc
same_place_true (Some x) (Some y) e = ap Some (place_true x y e)

pub same_handle_true : (a b : NumberedHandle) → same_handle a b ≡ true → a ≡ b
same_handle_true a b e =
    let t = and_parts (same_kind a.kind b.kind) (equivalent a b) e in
    let u = and_parts (same_number a.object b.object) (same_place a.place b.place) t.1 in
    let k = same_kind_true a.kind b.kind t.0 in let o = same_number_true a.object b.object u.0 in let p = same_place_true a.place b.place u.1 in
    λ i. record { kind = k i; object = o i; place = p i }

kind_self : (k : Kind) → same_kind k k ≡ true
kind_self Owner = refl
kind_self Weak = refl

number_self : (a : Option ℕ) → same_number a a ≡ true
number_self None = refl
number_self (Some x) = eq-eqb x x refl

place_self : (a : Option Place) → same_place a a ≡ true
place_self None = refl
place_self (Some x) = and_from _ _ (eq-eqb x.block.0 x.block.0 refl) (eq-eqb x.field x.field refl)

pub handle_self : (a : NumberedHandle) → same_handle a a ≡ true
handle_self a = and_from _ _ (kind_self a.kind) (and_from _ _ (number_self a.object) (place_self a.place))

pub tally_append : (k : Kind) (o : ℕ) (xs ys : List NumberedHandle) → tally k o (xs ++ ys) ≡ tally k o xs + tally k o ys
tally_append k o xs ys = ap length (filter-append (is_on k o) xs ys) ∙ length-append (filter (is_on k o) xs) (filter (is_on k o) ys)

pub tally_cons : (k : Kind) (o : ℕ) (h : NumberedHandle) (l : List NumberedHandle) → tally k o (h ∷ l) ≡ tally k o (h ∷ []) + tally k o l
tally_cons k o h l = tally_append k o (h ∷ []) l

-- of an owner of o only the owners of o are more
pub tally_here : (k : Kind) (o : ℕ) (p : Option Place) (l : List NumberedHandle) → tally k o (handle k (Some o) p ∷ l) ≡ suc (tally k o l)
tally_here k o p l = ap length (cond-true _ _ _ (and_from _ _ (kind_self k) (eq-eqb o o refl)))

pub tally_other : (k m : Kind) (o q : ℕ) (p : Option Place) (l : List NumberedHandle) → o ≢ q → tally k o (handle m (Some q) p ∷ l) ≡ tally k o l
tally_other Owner Owner o q p l n = ap length (cond-false _ _ _ (ne_eqb o q n))
tally_other Owner Weak o q p l n = refl
tally_other Weak Owner o q p l n = refl
tally_other Weak Weak o q p l n = ap length (cond-false _ _ _ (ne_eqb o q n))

pub held_true : (x y : Held) → same_held x y ≡ true → x ≡ y
held_true x y e = let t = and_parts _ _ e in let p = eqb-true _ _ t.0 in let q = same_handle_true _ _ t.1 in λ i. record { desk = p i; handle = q i }

pub held_self : (x : Held) → same_held x x ≡ true
held_self x = and_from _ _ (eq-eqb x.desk x.desk refl) (handle_self x.handle)

pub stored_true : (x y : Stored) → same_stored x y ≡ true → x ≡ y
stored_true x y e = let t = and_parts _ _ e in let p = eqb-true _ _ t.0 in let q = eqb-true _ _ t.1 in λ i. record { desk = p i; block = q i }

pub stored_self : (x : Stored) → same_stored x x ≡ true
stored_self x = and_from _ _ (eq-eqb x.desk x.desk refl) (eq-eqb x.block x.block refl)

-- how many elements pass a test
abbrev pub num : {A : Type 0} → (A → Bool) → List A → ℕ
num p l = length (filter p l)

pub num_cons : {A : Type 0} (p : A → Bool) (x : A) (l : List A) → num p (x ∷ l) ≡ num p (x ∷ []) + num p l
num_cons p x l = ap length (filter-append p (x ∷ []) l) ∙ length-append (filter p (x ∷ [])) (filter p l)

module _ {A : Type 0} (same : A → A → Bool) (truth : (x y : A) → same x y ≡ true → x ≡ y) (self : (x : A) → same x x ≡ true) where
  pub differs : (x y : A) → same x y ≡ false → x ≢ y
  differs x y e s = both_ways _ e (subst (λ (z : A). same x z ≡ true) s (self x))

  -- what is taken out is counted once less
  pub num_without : (p : A → Bool) (x : A) (l : List A) → Has x l → num p l ≡ num p (x ∷ []) + num p (without same x l)
  num_without p x [] h = absurd h
  num_without p x (y ∷ ys) h =
      cond_both (same x y) ys (y ∷ without same x ys) (λ l. num p (y ∷ ys) ≡ num p (x ∷ []) + num p l)
      (λ e. num_cons p y ys ∙ ap (λ u. num p (u ∷ []) + num p ys) (sym (truth x y e)))
      (λ e.
      let there : Has x ys = ⊎_elim (λ s. absurd (differs x y e s)) (λ u. u) h in
      omega (arith, num_without p x ys there, num_cons p y ys, num_cons p y (without same x ys)))

  -- another element stays
  pub has_without : (x y : A) (l : List A) → Has x l → x ≢ y → Has x (without same y l)
  has_without x y [] h n = absurd h
  has_without x y (z ∷ zs) h n =
      cond_both (same y z) zs (z ∷ without same y zs) (λ l. Has x l)
      (λ e. ⊎_elim (λ s. absurd (n (s ∙ sym (truth y z e)))) (λ t. t) h)
      (λ e. ⊎_elim inl (λ t. inr (has_without x y zs t n)) h)

  -- what is left was there
  pub has_before : (x y : A) (l : List A) → Has x (without same y l) → Has x l
  has_before x y [] h = h
  has_before x y (z ∷ zs) h =
      cond_both (same y z) zs (z ∷ without same y zs) (λ l. Has x l → Has x (z ∷ zs)) (λ e t. inr t)
      (λ e t. ⊎_elim inl (λ u. inr (has_before x y zs u)) t) h

pub num_has : {A : Type 0} (p : A → Bool) (x : A) (l : List A) → Has x l → p x ≡ true → 0 < num p l
num_has p x [] h t = absurd h
num_has p x (y ∷ ys) h t =
    ⊎_elim (λ s. let u : p y ≡ true = subst (λ z. p z ≡ true) s t in subst
    (λ (n : List _). 0 < length n) (sym (cond-true (p y) (y ∷ filter p ys) (filter p ys) u)) (omega arith))
    (λ s. let r = num_has p x ys s t in omega (arith, num_cons p y ys)) h

pub one_cond : {A B : Type 0} (b : Bool) (x : A) (y : B) → length (cond b (x ∷ []) []) ≡ length (cond b (y ∷ []) [])
one_cond true x y = refl
one_cond false x y = refl

pub num_map : {A B : Type 0} (p : B → Bool) (f : A → B) (l : List A) → num p (map f l) ≡ num (λ x. p (f x)) l
num_map p f [] = refl
num_map p f (x ∷ xs) = omega (arith, num_cons p (f x) (map f xs), num_map p f xs, num_cons (λ y. p (f y)) x xs, one_cond (p (f x)) (f x) x)

-- taking a handle out of the hands counts it once less
pub tally_without : (k : Kind) (o : ℕ) (x : Held) (l : List Held) (r : List NumberedHandle) → Has x l
    → tally k o (map (λ y. y.handle) l ++ r) ≡ tally k o (x.handle ∷ []) + tally k o (map (λ y. y.handle) (without same_held x l) ++ r)
tally_without k o x l r h =
    omega (
      arith,
      num_without same_held held_true held_self (λ y. is_on k o y.handle) x l h,
      tally_append k o (map (λ y. y.handle) l) r,
      tally_append k o (map (λ y. y.handle) (without same_held x l)) r,
      num_map (is_on k o) (λ (y : Held). y.handle) l,
      num_map (is_on k o) (λ (y : Held). y.handle) (without same_held x l),
      num_map (is_on k o) (λ (y : Held). y.handle) (x ∷ []),
    )

-- a handle in the hands is counted
pub tally_has : (k : Kind) (o : ℕ) (x : Held) (l : List Held) (r : List NumberedHandle) → Has x l → 0 < tally k o (x.handle ∷ [])
    → 0 < tally k o (map (λ y. y.handle) l ++ r)
tally_has k o x l r h one = omega (arith, tally_without k o x l r h)

pub upto_same : (n : ℕ) (f g : ℕ → List NumberedHandle) → ((i : ℕ) → i < n → f i ≡ g i) → upto n f ≡ upto n g
upto_same zero f g e = refl
upto_same (suc n) f g e = let here = e n (omega arith) in let rest = upto_same n f g (λ i h. e i (omega arith)) in λ i. here i ++ rest i

pub tally_upto_empty : (k : Kind) (o n : ℕ) (f : ℕ → List NumberedHandle) → ((i : ℕ) → i < n → tally k o (f i) ≡ 0) → tally k o (upto n f) ≡ 0
tally_upto_empty k o zero f e = refl
tally_upto_empty k o (suc n) f e = omega (arith, tally_append k o (f n) (upto n f), e n (omega arith), tally_upto_empty k o n f (λ i h. e i (omega arith)))

-- one of n lists changes
pub upto_change : (k : Kind) (q n o : ℕ) (f g : ℕ → List NumberedHandle) → o < n → ((i : ℕ) → i ≢ o → g i ≡ f i)
    → tally k q (upto n g) + tally k q (f o) ≡ tally k q (upto n f) + tally k q (g o)
upto_change k q zero o f g lt same = absurd (omega arith)
upto_change k q (suc n) o f g lt same =
    ⊎_elim
    (λ (e : n ≡ o).
    let old = upto_same n g f (λ i h. same i (λ u. omega arith)) in
    let b = ap (tally k q) old in let c : tally k q (f n) ≡ tally k q (f o) = ap (λ i. tally k q (f i)) e in
    let d : tally k q (g n) ≡ tally k q (g o) = ap (λ i. tally k q (g i)) e in
    omega (arith, tally_append k q (g n) (upto n g), tally_append k q (f n) (upto n f)))
    (λ (ne : n ≢ o).
    let a = ap (tally k q) (same n ne) in
    let ih = upto_change k q n o f g (omega arith) same in
    omega (arith, tally_append k q (g n) (upto n g), tally_append k q (f n) (upto n f)))
    (cases_eq n o)

pub store_found : (b : ℕ) (l : List Stored) → 0 < how_often b l → (d : ℕ) × Has (stored d b) l
store_found b [] h = absurd (omega arith)
store_found b (x ∷ xs) h =
    cond_both (x.block == b) (x ∷ filter (λ y. y.block == b) xs) (filter (λ y. y.block == b) xs)
    (λ l. 0 < length l → (d : ℕ) × Has (stored d b) (x ∷ xs))
    (λ e p. (x.desk, inl (let q = eqb-true x.block b e in λ i. record { desk = x.desk; block = sym q i })))
    (λ e p. let t = store_found b xs p in (t.0, inr t.1)) h
