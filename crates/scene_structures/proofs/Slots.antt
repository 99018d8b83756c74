-- Slots for the values of objects that end, beside the pile.
use Rattle.std.proofs.Common.{◌≡◌, ℕ, suc, ◌+◌, ◌<◌, ◌≤◌, ◌≢◌, ◌⊎◌, List, [], ◌∷◌, ◌++◌, reverse}
use Rattle.std.proofs.Common.{length, slice_set, Some, None, Option, sym, refl, ap, ◌∙◌, subst}
use Rattle.std.proofs.Common.{inl, inr, append_assoc, append-nil, arith, length-append}
use Rattle.scene_structures.proofs.Prelude.{AreOut, empty_slots, Ending, filled_values}
use Rattle.std.proofs.Math.Seq.{set-append_seam}
use Rattle.std.proofs.lemmas.List.{reverse-append}

pub no_last : {B : Type 0} (is : List B) (i : B) → [] ≡ is ++ i ∷ [] → ⊥
no_last [] i e = cc e
no_last (j ∷ is) i e = cc e

pub some_length : {B : Type 0} (l : List B) → l ≢ [] → 0 < length l
some_length [] some = absurd (some refl)
some_length (x ∷ l) some = omega arith

-- a list is empty, or has a last element
pub last_of : {B : Type 0} (zs : List B) → (zs ≡ []) ⊎ ((ws : List B) × (z : B) × (zs ≡ ws ++ z ∷ []))
last_of [] = inl refl
last_of {B} (x ∷ zs) = go (last_of zs)
  where
    go : (zs ≡ []) ⊎ ((ws : List B) × (z : B) × (zs ≡ ws ++ z ∷ []))
        → (x ∷ zs ≡ []) ⊎ ((ws : List B) × (z : B) × (x ∷ zs ≡ ws ++ z ∷ []))
    go (inl e) = inr ([], x, ap (λ l. x ∷ l) e)
    go (inr (ws, z, e)) = inr (x ∷ ws, z, ap (λ l. x ∷ l) e)

pub last_same : {B : Type 0} (xs ys : List B) (x y : B) → xs ++ x ∷ [] ≡ ys ++ y ∷ [] → (xs ≡ ys) × (x ≡ y)
last_same [] [] x y e = (refl, cc e)
last_same [] (b ∷ ys) x y e = absurd (no_last ys y (cc e))
last_same (a ∷ xs) [] x y e = absurd (no_last xs x (cc e))
last_same (a ∷ xs) (b ∷ ys) x y e =
    let head : a ≡ b = cc e in let tail : xs ++ x ∷ [] ≡ ys ++ y ∷ [] = cc e in
    let t = last_same xs ys x y tail in ((λ i. head i ∷ t.0 i), t.1)

module _ {A : Type 0} where
  pub empty_both : (n : ℕ) (xs ys : List (Option A)) → empty_slots n (xs ++ ys) ≡ empty_slots n xs ++ empty_slots (n + length xs) ys
  empty_both n [] ys = let e : n ≡ n + length {A = Option A} [] = omega arith in ap (λ k. empty_slots k ys) e
  empty_both n (Some x ∷ xs) ys =
      let e : suc n + length xs ≡ n + length (Some x ∷ xs) = omega arith in
      empty_both (suc n) xs ys ∙ ap (λ k. empty_slots (suc n) xs ++ empty_slots k ys) e
  empty_both n (None ∷ xs) ys =
      let empty : Option A = None in
      let e : suc n + length xs ≡ n + length (empty ∷ xs) = omega arith in
      ap (λ l. n ∷ l) (empty_both (suc n) xs ys ∙ ap (λ k. empty_slots (suc n) xs ++ empty_slots k ys) e)

  none_empty : (n m : ℕ) (ss : List (Option A)) → empty_slots n ss ≡ [] → empty_slots m ss ≡ []
  none_empty n m [] e = refl
  none_empty n m (Some x ∷ ss) e = none_empty (suc n) (suc m) ss e
  none_empty n m (None ∷ ss) e = absurd (cc e)

  -- the last empty slot
  pub record LastEmpty (n : ℕ) (ss : List (Option A)) (is : List ℕ) (i : ℕ) : Type 0 where
    pub before : List (Option A)
    pub after : List (Option A)
    pub are : ss ≡ before ++ None ∷ after
    pub at : i ≡ n + length before
    pub rest : empty_slots n before ≡ is
    pub none : (m : ℕ) → empty_slots m after ≡ []

  pub last_empty : (n : ℕ) (ss : List (Option A)) (is : List ℕ) (i : ℕ) → empty_slots n ss ≡ is ++ i ∷ [] → LastEmpty n ss is i
  last_empty n [] is i e = absurd (no_last is i e)
  last_empty n (Some x ∷ ss) is i e =
      let t = last_empty (suc n) ss is i e in
      let at = t.at in
      record { before = Some x ∷ t.before; after = t.after; are = ap (λ l. Some x ∷ l) t.are; at = omega arith; rest = t.rest; none = t.none }
  last_empty n (None ∷ ss) [] i e =
      let head : n ≡ i = cc e in let tail : empty_slots (suc n) ss ≡ [] = cc e in
      record { before = []; after = ss; are = refl; at = omega arith; rest = refl; none = λ m. none_empty (suc n) m ss tail }
  last_empty n (None ∷ ss) (j ∷ is) i e =
      let head : n ≡ j = cc e in let tail : empty_slots (suc n) ss ≡ is ++ i ∷ [] = cc e in
      let t = last_empty (suc n) ss is i tail in
      let at = t.at in
      record {
        before = None ∷ t.before;
        after = t.after;
        are = ap (λ l. None ∷ l) t.are;
        at = omega arith;
        rest = (λ k. head k ∷ t.rest k);
        none = t.none;
      }

  pub few_empty : (n : ℕ) (ss : List (Option A)) → length (empty_slots n ss) ≤ length ss
  few_empty n [] = omega arith
  few_empty n (Some x ∷ ss) = let t = few_empty (suc n) ss in omega arith
  few_empty n (None ∷ ss) = let t = few_empty (suc n) ss in omega arith

  pub slot_there : (ss : List (Option A)) (is : List ℕ) (i : ℕ) → empty_slots 0 ss ≡ is ++ i ∷ [] → i < length ss
  slot_there ss is i e =
      let empty : Option A = None in let t = last_empty 0 ss is i e in let at = t.at in let l = ap length t.are in
      omega (arith, at, l, length-append t.before (empty ∷ t.after))

  -- one more that is empty
  pub empty_more : (ss ts : List (Option A)) (is js : List ℕ) → is ≡ empty_slots 0 ss → js ≡ is ++ length ss ∷ [] → ts ≡ ss ++ None ∷ []
      → js ≡ empty_slots 0 ts
  empty_more ss ts is js was grown more =
      let z : 0 + length ss ≡ length ss = omega arith in
      grown ∙ (ap (λ l. l ++ length ss ∷ []) was
      ∙ (ap (λ k. empty_slots 0 ss ++ k ∷ []) (sym z) ∙ (sym (empty_both 0 ss (None ∷ [])) ∙ ap (empty_slots 0) (sym more))))

  -- the last one is filled
  pub empty_less : (ss : List (Option A)) (is : List ℕ) (i : ℕ) (x : A) → empty_slots 0 ss ≡ is ++ i ∷ []
      → is ≡ empty_slots 0 (slice_set ss i (Some x))
  empty_less ss is i x e =
      let t = last_empty 0 ss is i e in
      let at : i ≡ length t.before = (let a = t.at in omega arith) in
      let set : slice_set ss i (Some x) ≡ t.before ++ Some x ∷ t.after =
      (λ k. slice_set (t.are k) (at k) (Some x)) ∙ set-append_seam t.before None t.after (Some x) in
      let rest : empty_slots 0 (t.before ++ Some x ∷ t.after) ≡ is ++ [] =
      empty_both 0 t.before (Some x ∷ t.after) ∙ (λ k. t.rest k ++ t.none (suc (0 + length t.before)) k) in
      sym (ap (empty_slots 0) set ∙ (rest ∙ append-nil is))

  -- what slots have, from the last one on
  pub filled_some : (ss : List (Option A)) (x : A) → filled_values (ss ++ Some x ∷ []) ≡ filled_values ss ++ x ∷ []
  filled_some [] x = refl
  filled_some (Some y ∷ ss) x = ap (λ l. y ∷ l) (filled_some ss x)
  filled_some (None ∷ ss) x = filled_some ss x

  pub filled_none : (ss : List (Option A)) → filled_values (ss ++ None ∷ []) ≡ filled_values ss
  filled_none [] = refl
  filled_none (Some y ∷ ss) = ap (λ l. y ∷ l) (filled_none ss)
  filled_none (None ∷ ss) = filled_none ss

  -- what slots have goes over to a list that is turned round in the end
  pub turned : (all : List A) (ss rest : List (Option A)) (vs ws : List A) (x : A) → ss ≡ rest ++ Some x ∷ [] → all ≡ filled_values ss ++ reverse vs
      → ws ≡ vs ++ x ∷ [] → all ≡ filled_values rest ++ reverse ws
  turned all ss rest vs ws x are is' more =
      is' ∙ (ap (λ l. filled_values l ++ reverse vs) are ∙ (ap (λ l. l ++ reverse vs) (filled_some rest x)
      ∙ (append_assoc (filled_values rest) (x ∷ []) (reverse vs) ∙ ap (λ l. filled_values rest ++ l)
      (sym (ap reverse more ∙ reverse-append vs (x ∷ []))))))

  pub turned_none : (all : List A) (ss rest : List (Option A)) (vs : List A) → ss ≡ rest ++ None ∷ [] → all ≡ filled_values ss ++ reverse vs
      → all ≡ filled_values rest ++ reverse vs
  turned_none all ss rest vs are is' = is' ∙ ap (λ l. l ++ reverse vs) (ap filled_values are ∙ filled_none rest)

module _ {V : Type 0} where
  -- one more ends
  pub out_more : (ss : List (Option V)) (zs : List (Ending V)) (vs : List V) (x : Ending V) → AreOut ss zs vs
      → AreOut (ss ++ None ∷ []) (zs ++ x ∷ []) (vs ++ x.value ∷ [])
  out_more [] zs vs x (none, nil) = (x, [], [], ap (λ l. l ++ x ∷ []) none, ap (λ l. l ++ x.value ∷ []) nil, (refl, refl))
  out_more (Some v ∷ ss) zs vs x (us, e, o) = (us ++ x.value ∷ [], ap (λ l. l ++ x.value ∷ []) e, out_more ss zs us x o)
  out_more (None ∷ ss) zs vs x (z, ws, us, a, b, o) =
      (z, ws ++ x ∷ [], us ++ x.value ∷ [], ap (λ l. l ++ x ∷ []) a, ap (λ l. l ++ x.value ∷ []) b, out_more ss ws us x o)

  out_none : (n : ℕ) (ss : List (Option V)) (zs : List (Ending V)) (vs : List V) → empty_slots n ss ≡ [] → AreOut ss zs vs → zs ≡ []
  out_none n [] zs vs e o = o.0
  out_none n (Some v ∷ ss) zs vs e (us, same, o) = out_none (suc n) ss zs us e o
  out_none n (None ∷ ss) zs vs e o = absurd (cc e)

  -- no slot is empty, and nothing lies on the pile
  pub out_all : (ss : List (Option V)) (zs : List (Ending V)) (vs : List V) → empty_slots 0 ss ≡ [] → AreOut ss zs vs → zs ≡ []
  out_all ss zs vs e o = out_none 0 ss zs vs e o

  pub out_whole : (ss : List (Option V)) (zs : List (Ending V)) (vs : List V) → zs ≡ [] → AreOut ss zs vs → filled_values ss ≡ vs
  out_whole [] zs vs e (none, nil) = sym nil
  out_whole (Some v ∷ ss) zs vs e (us, same, o) = ap (λ l. v ∷ l) (out_whole ss zs us e o) ∙ sym same
  out_whole (None ∷ ss) zs vs e (z, ws, us, a, b, o) = absurd (let t : [] ≡ z ∷ ws = sym e ∙ a in cc t)

  -- the top is another with the same value
  pub out_same : (ss : List (Option V)) (zs : List (Ending V)) (x y : Ending V) (vs : List V) → y.value ≡ x.value → AreOut ss (zs ++ x ∷ []) vs
      → AreOut ss (zs ++ y ∷ []) vs
  out_same [] zs x y vs same (none, nil) = absurd (no_last zs x (sym none))
  out_same (Some v ∷ ss) zs x y vs same (us, e, o) = (us, e, out_same ss zs x y us same o)
  out_same (None ∷ ss) [] x y vs same (z, ws, us, a, b, o) =
      let head : x ≡ z = cc a in (
        y,
        ws,
        us,
        (let tail : [] ≡ ws = cc a in ap (λ l. y ∷ l) tail),
        b ∙ ap (λ v. v ∷ us) (ap (λ (k : Ending V). k.value) (sym head) ∙ sym same),
        o,
      )
  out_same (None ∷ ss) (w ∷ zs) x y vs same (z, ws, us, a, b, o) =
      let head : w ≡ z = cc a in let tail : zs ++ x ∷ [] ≡ ws = cc a in
      let t = out_same ss zs x y us same (subst (λ l. AreOut ss l us) (sym tail) o) in
      (w, zs ++ y ∷ [], us, refl, b ∙ ap (λ (k : Ending V). k.value ∷ us) (sym head), t)

  -- an empty slot is somebody's
  out_some : (xs ys : List (Option V)) (zs : List (Ending V)) (vs : List V) → zs ≡ [] → AreOut (xs ++ None ∷ ys) zs vs → ⊥
  out_some [] ys zs vs e (z, ws, us, a, b, o) = let t : [] ≡ z ∷ ws = sym e ∙ a in cc t
  out_some (Some v ∷ xs) ys zs vs e (us, same, o) = out_some xs ys zs us e o
  out_some (None ∷ xs) ys zs vs e (z, ws, us, a, b, o) = let t : [] ≡ z ∷ ws = sym e ∙ a in cc t

  -- so where one is empty, something lies on top
  pub top_there : (ss : List (Option V)) (zs : List (Ending V)) (vs : List V) (is : List ℕ) (i : ℕ)
      → empty_slots 0 ss ≡ is ++ i ∷ [] → AreOut ss zs vs
      → (ws : List (Ending V)) × (z : Ending V) × (zs ≡ ws ++ z ∷ [])
  top_there ss zs vs is i vacant out =
      let t = last_empty 0 ss is i vacant in
      go (last_of zs) t
    where
      go : (zs ≡ []) ⊎ ((ws : List (Ending V)) × (z : Ending V) × (zs ≡ ws ++ z ∷ [])) → LastEmpty 0 ss is i
          → (ws : List (Ending V)) × (z : Ending V) × (zs ≡ ws ++ z ∷ [])
      go (inl e) t = absurd (out_some t.before t.after zs vs e (subst (λ l. AreOut l zs vs) t.are out))
      go (inr r) t = r

  -- the top comes out
  out_filled : (xs ys : List (Option V)) (zs : List (Ending V)) (x : Ending V) (vs : List V) (v : V) → ((m : ℕ) → empty_slots m ys ≡ [])
      → v ≡ x.value → AreOut (xs ++ None ∷ ys) (zs ++ x ∷ []) vs → AreOut (xs ++ Some v ∷ ys) zs vs
  out_filled [] ys [] x vs v none same (z, ws, us, a, b, o) =
      let head : x ≡ z = cc a in let tail : [] ≡ ws = cc a in
      (us, b ∙ ap (λ k. k ∷ us) (ap (λ (k : Ending V). k.value) (sym head) ∙ sym same), subst (λ l. AreOut ys l us) (sym tail) o)
  out_filled [] ys (w ∷ zs) x vs v none same (z, ws, us, a, b, o) =
      let tail : zs ++ x ∷ [] ≡ ws = cc a in
      absurd (no_last zs x (sym (tail ∙ out_none 0 ys ws us (none 0) o)))
  out_filled (Some w ∷ xs) ys zs x vs v none same (us, e, o) = (us, e, out_filled xs ys zs x us v none same o)
  out_filled (None ∷ xs) ys [] x vs v none same (z, ws, us, a, b, o) = absurd (let tail : [] ≡ ws = cc a in out_some xs ys ws us (sym tail) o)
  out_filled (None ∷ xs) ys (w ∷ zs) x vs v none same (z, ws, us, a, b, o) =
      let head : w ≡ z = cc a in let tail : zs ++ x ∷ [] ≡ ws = cc a in (
        w,
        zs,
        us,
        refl,
        b ∙ ap (λ (k : Ending V). k.value ∷ us) (sym head),
        out_filled xs ys zs x us v none same (subst (λ l. AreOut (xs ++ None ∷ ys) l us) (sym tail) o),
      )

  pub out_less : (ss : List (Option V)) (is : List ℕ) (i : ℕ) (v : V) (zs : List (Ending V)) (x : Ending V) (vs : List V)
      → empty_slots 0 ss ≡ is ++ i ∷ []
      → v ≡ x.value → AreOut ss (zs ++ x ∷ []) vs → AreOut (slice_set ss i (Some v)) zs vs
  out_less ss is i v zs x vs e same out =
      let t = last_empty 0 ss is i e in
      let at : i ≡ length t.before = (let a = t.at in omega arith) in
      let set : slice_set ss i (Some v) ≡ t.before ++ Some v ∷ t.after =
      (λ k. slice_set (t.are k) (at k) (Some v)) ∙ set-append_seam t.before None t.after (Some v) in
      subst (λ l. AreOut l zs vs) (sym set) (out_filled t.before t.after zs x vs v t.none same (subst (λ l. AreOut l (zs ++ x ∷ []) vs) t.are out))
