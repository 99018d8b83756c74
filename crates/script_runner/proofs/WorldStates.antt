-- What a worker sees of its table's slots and of what is left to end.
use Rattle.std.proofs.Common.{◌≡◌, ℕ, zero, suc, ◌-◌, ◌<◌, ◌≤◌, Bool, false, List, [], ◌∷◌, ◌++◌, length}
use Rattle.std.proofs.Common.{is_some, slice_get, Some, None, Option, sym, refl, ap, ◌∙◌, subst, arith}
use Rattle.script_runner.proofs.Prelude
use Prelude.{AllEnd, Block, block_of_held, Held, is_full, IsFour, IsToEnd, IsTop, Kind}
use Prelude.{kind_of_held, Place, place_of_held, plain, pointer_of, Remains, remains_ended}
use Prelude.{shown_slots, slot_by, slot_pointer, slot_value, Standing, TableNow}
use Rattle.script_runner.specs.Tables as table
use Rattle.script_runner.specs.SlotCalls.{has_block}
use Rattle.script_runner.proofs.Fields.{remains_in}
use Rattle.script_runner.proofs.Seating as seating
use Rattle.script_runner.proofs.Stages.{ends_last}

full_as : (k : Kind) (b : Option Block) (p : Option Place) → is_full (pointer_of (slot_by k b p)) ≡ is_some b
full_as k None p = refl
full_as k (Some b) p = refl

-- a slot has an object where its handle has
pub full_shown : (m i : ℕ) (t : TableNow ℕ) (h : Held) → i < m → slice_get t.slots i ≡ Some (Some h)
    → is_full (slot_pointer (shown_slots m t.slots) i) ≡ is_some (block_of_held h)
full_shown m i t h lt at =
    ap (λ x. is_full (pointer_of x)) (seating.shown_at m t.slots i (Some h) lt at) ∙ full_as (kind_of_held h) (block_of_held h) (place_of_held h)

beyond : (m : ℕ) (ss : List table.Slot) (i : ℕ) → length ss ≤ i → slot_value (shown_slots m ss) i ≡ plain
beyond zero ss i le = refl
beyond (suc m) [] i le = refl
beyond (suc m) (s ∷ ss) zero le = let no : ⊥ = omega (arith, le) in absurd no
beyond (suc m) (s ∷ ss) (suc i) le = beyond m ss i (omega (arith, le))

out_of : (ss : List table.Slot) (i : ℕ) → slice_get ss i ≡ None → length ss ≤ i
out_of [] i none = omega arith
out_of (s ∷ ss) zero none = absurd cc
out_of (s ∷ ss) (suc i) none = let ih = out_of ss i none in omega (arith, ih)

-- whether a thread's slot has an object, by what the table tells of it
pub object_shown : (m i : ℕ) (t : TableNow ℕ) (has : Bool) → i < m → ((s : table.Slot) → slice_get t.slots i ≡ Some s → has_block s ≡ has)
    → (length t.slots ≤ i → has ≡ false) → is_full (slot_pointer (shown_slots m t.slots) i) ≡ has
object_shown m i t has lt there none = go (slice_get t.slots i) refl
  where
    go : (x : Option table.Slot) → slice_get t.slots i ≡ x → is_full (slot_pointer (shown_slots m t.slots) i) ≡ has
    go None at =
        let le = out_of t.slots i at in
        ap (λ x. is_full (pointer_of x)) (beyond m t.slots i le) ∙ sym (none le)
    go (Some None) at = ap (λ x. is_full (pointer_of x)) (seating.shown_at m t.slots i None lt at) ∙ there None at
    go (Some (Some h)) at = full_shown m i t h lt at ∙ there (Some h) at

-- the last of a list
last_at : {A : Type 0} (xs : List A) (x : A) (n : ℕ) → length xs ≡ suc n → slice_get xs n ≡ Some x → (below : List A) × (xs ≡ below ++ x ∷ [])
last_at [] x n many e = let no : ⊥ = omega (arith, many) in absurd no
last_at (y ∷ []) x zero many e = ([], ap (λ z. z ∷ []) (seating.same_some y x e))
last_at (y ∷ []) x (suc n) many e = let no : ⊥ = omega (arith, many) in absurd no
last_at (y ∷ z ∷ zs) x zero many e = let no : ⊥ = omega (arith, many) in absurd no
last_at (y ∷ z ∷ zs) x (suc n) many e =
    let r = last_at (z ∷ zs) x n (omega (arith, many)) e in (y ∷ r.0, ap (λ l. y ∷ l) r.1)

last_of : {A : Type 0} (xs : List A) (x : A) → slice_get xs (length xs - 1) ≡ Some x → (below : List A) × (xs ≡ below ++ x ∷ [])
last_of [] x e = absurd cc
last_of (y ∷ ys) x e = last_at (y ∷ ys) x (length ys) refl (ap (λ n. slice_get (y ∷ ys) n)
    (let k : length ys ≡ suc (length ys) - 1 = omega arith in k) ∙ e)

-- the object that was last left to end
pub top_is : (t : TableNow ℕ) (r : Remains) → Standing t.desk → AllEnd t.desk t.endings → IsFour r → IsToEnd t r → IsTop t (remains_ended r)
top_is t r stands ends four is =
    let x = last_of t.endings is.top is.last in
    let ending = (ends_last t.desk x.0 is.top (subst (λ xs. AllEnd t.desk xs) x.1 ends)).ends in
    (x.0, is.top, x.1, remains_in t.desk is.top.block.0 is.top.value r stands ending four is.made)
