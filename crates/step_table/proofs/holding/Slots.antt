-- Lists of slots, and what the handles in them are.
use Rattle.std.proofs.Common.{◌≡◌, ℕ, zero, suc, ◌+◌, ◌<◌, ◌≤◌, Bool, true, false, cond, List, []}
use Rattle.std.proofs.Common.{◌∷◌, length, set, Some, None, Option, sym, refl, ap, ◌∙◌, inl, inr}
use Rattle.std.proofs.Common.{arith, eq-eqb}
use Rattle.step_table.proofs.Prelude
use Prelude.{cond-false, cond-true, cond_both, Empty, filter, Full, Handle, Has, Held, held}
use Prelude.{held_true, num, num_cons, NumberedHandle, Place, pointer_of, same_handle, same_held}
use Prelude.{same_Some, Slot, slot_has_object, slot_pointer, slot_value, Slots}
use Rattle.std.proofs.lemmas.Bool.{and_from}
use Rattle.step_table.specs.Registers.{full}

-- one slot gets another value
pub num_set : (p : Slot → Bool) (l : Slots) (i : ℕ) (x : Slot) → i < length l
    → num p (set l i x) + num p (slot_value l i ∷ []) ≡ num p l + num p (x ∷ [])
num_set p [] i x lt = absurd (omega arith)
num_set p (y ∷ ys) zero x lt = let a = num_cons p x ys in let b = num_cons p y ys in omega (arith, a, b)
num_set p (y ∷ ys) (suc i) x lt =
    let t = num_set p ys i x (omega arith) in
    let a = num_cons p y (set ys i x) in let b = num_cons p y ys in omega (arith, t, a, b)

-- a slot within the list is one of its values
pub full_is : (y : Slot) (x : Handle) → pointer_of y ≡ Some x → y ≡ Full x
full_is (Empty p) x e = cc
full_is (Full z) x e = ap (λ (w : Handle). Full w) (same_Some z x e)

pub has_slot : (l : Slots) (i : ℕ) (x : Handle) → slot_pointer l i ≡ Some x → Has (Full x) l
has_slot [] i x e = cc
has_slot (y ∷ ys) zero x e = inl (sym (full_is y x e))
has_slot (y ∷ ys) (suc i) x e = inr (has_slot ys i x e)

pub slot_inside : (l : Slots) (i : ℕ) (x : Handle) → slot_pointer l i ≡ Some x → i < length l
slot_inside [] i x e = cc
slot_inside (y ∷ ys) zero x e = omega arith
slot_inside (y ∷ ys) (suc i) x e = let t = slot_inside ys i x e in omega (arith, t)

-- what is counted is there
pub counted_has : (x : Held) (l : List Held) → 0 < num (same_held x) l → Has x l
counted_has x [] lt = absurd (omega arith)
counted_has x (y ∷ ys) lt =
    cond_both (same_held x y) (y ∷ filter (same_held x) ys) (filter (same_held x) ys) (λ (r : List Held). 0 < length r → Has x (y ∷ ys))
    (λ e t. inl (held_true x y e)) (λ e t. inr (counted_has x ys t)) lt

-- a handle of the desk, counted
pub one_held : (d : ℕ) (h x : NumberedHandle) → num (same_held (held d h)) (held d x ∷ []) ≡ cond (same_handle h x) 1 0
one_held d h x =
    let e = eq-eqb d d refl in
    cond_both (same_handle h x) 1 0 (λ (n : ℕ). num (same_held (held d h)) (held d x ∷ []) ≡ n)
    (λ t. let k : same_held (held d h) (held d x) ≡ true = and_from _ _ e t in ap length (cond-true (same_held (held d h) (held d x))
    (held d x ∷ []) [] k))
    (λ t. let k : same_held (held d h) (held d x) ≡ false = rw (
      e,
      t,
    ) refl in ap length (cond-false (same_held (held d h) (held d x)) (held d x ∷ []) [] k))

pub one_slot : (p : Slot → Bool) (x : Slot) → num p (x ∷ []) ≡ cond (p x) 1 0
one_slot p x = cond_both (p x) (x ∷ []) [] (λ (l : Slots). length l ≡ cond (p x) 1 0) (λ t. sym (cond-true (p x) 1 0 t))
    (λ t. sym (cond-false (p x) 1 0 t))

-- an empty slot counts for nothing, and one with a pointer as that
pub num_none : (p : Slot → Bool) (y : Slot) → ((q : Option Place) → p (Empty q) ≡ false) → pointer_of y ≡ None → num p (y ∷ []) ≡ 0
num_none p (Empty q) f e = one_slot p (Empty q) ∙ ap (λ (t : Bool). cond t 1 0) (f q)
num_none p (Full x) f e = cc

pub num_some : (p : Slot → Bool) (y : Slot) (x : Handle) → pointer_of y ≡ Some x → num p (y ∷ []) ≡ num p (Full x ∷ [])
num_some p y x e = ap (λ (z : Slot). num p (z ∷ [])) (full_is y x e)

-- a list with an empty slot has fewer full ones than slots
pub full_less : (l : Slots) (i : ℕ) → i < length l → slot_pointer l i ≡ None → full l < length l
full_less [] i lt e = absurd (omega arith)
full_less (y ∷ ys) zero lt e =
    let a = num_cons slot_has_object y ys in let b = full_most ys in
    let c = num_none slot_has_object y (λ q. refl) e in omega (arith, a, b, c)
  where
    full_most : (m : Slots) → full m ≤ length m
    full_most [] = omega arith
    full_most (z ∷ zs) = let r = full_most zs in cond_both (slot_has_object z) (z ∷ filter slot_has_object zs) (filter slot_has_object zs)
        (λ (q : Slots). length q ≤ suc (length zs)) (λ t. omega (arith, r)) (λ t. omega (arith, r))
full_less (y ∷ ys) (suc i) lt e =
    let r = full_less ys i (omega arith) e in
    cond_both (slot_has_object y) (y ∷ filter slot_has_object ys) (filter slot_has_object ys) (λ (q : Slots). length q < suc (length ys))
    (λ t. omega (arith, r))
    (λ t. omega (arith, r))
