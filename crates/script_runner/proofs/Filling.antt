-- Handles go into slots and out of them, and the desk holds just those that are there.
use Rattle.std.proofs.Common.{◌≡◌, ℕ, zero, suc, ◌+◌, ◌<◌, ◌≤◌, Bool, true, false, cond, ◌⊎◌, List}
use Rattle.std.proofs.Common.{[], ◌∷◌, ◌++◌, length, set, slice_get, Some, None, Option, sym, refl}
use Rattle.std.proofs.Common.{ap, ◌∙◌, subst, inl, inr, ⊎_elim, arith}
use Rattle.script_runner.proofs.TablePrelude
use TablePrelude.{AllVacant, as_listed, bag_of, Block, cond-false, cond-true, cond_both, DeskNow}
use TablePrelude.{FitsSlots, handle_self, Has, has_object, Held, HoldsHandle, is_filled, IsHeldByDesk}
use TablePrelude.{IsPermutation, Kind, NumberedHandle, Owner, Place, same_handle, Slot, slot_worth}
use TablePrelude.{total, Weak, with_handle, with_held, without, without_handle, without_held}
use Rattle.std.specs.List.{sum_by}
use Rattle.std.proofs.lemmas.List.Sorted.{sum_by-IsPermutation}
use Rattle.std.proofs.lemmas.List.Sums.{sum_by-append, sum_by-cons}
use Rattle.control_word.proofs.lists.Tallies.{same_handle_true}
use Rattle.control_word.specs.Handles.{handle}
use Rattle.control_word.specs.declared.model.handle.Kind.TheVariants as kind
use Rattle.control_block.specs.Parting.{number_of_block}

-- one slot changes
module _ {A : Type 0} (w : A → ℕ) where
  total_set : (l : List A) (i : ℕ) (x y : A) → slice_get l i ≡ Some x → total w (set l i y) + w x ≡ total w l + w y
  total_set [] i x y e = absurd (cc e)
  total_set (a ∷ l) zero x y e = let p : w a ≡ w x = ap w (cc e) in omega arith
  total_set (a ∷ l) (suc i) x y e = let ih = total_set l i x y e in omega arith

  total_at : (l : List A) (i : ℕ) (x : A) → slice_get l i ≡ Some x → w x ≤ total w l
  total_at [] i x e = absurd (cc e)
  total_at (a ∷ l) zero x e = let p : w a ≡ w x = ap w (cc e) in omega arith
  total_at (a ∷ l) (suc i) x e = let ih = total_at l i x e in omega arith

  total_last : (l : List A) (x : A) → total w (l ++ x ∷ []) ≡ total w l + w x
  total_last [] x = omega arith
  total_last (a ∷ l) x = let ih = total_last l x in omega arith

total_sum : {A : Type 0} (f : A → ℕ) (l : List A) → total f l ≡ sum_by f l
total_sum f [] = refl
total_sum f (x ∷ l) = let ih = total_sum f l in let a = sum_by-cons f x l in omega arith

pub bags_joined : (a b l : List NumberedHandle) → IsPermutation (a ++ b) l → (f : NumberedHandle → ℕ) → total f l ≡ total f a + total f b
bags_joined a b l same f =
    let p = sum_by-IsPermutation f (a ++ b) l same in let q = sum_by-append f a b in
    let x = total_sum f l in let y = total_sum f a in let z = total_sum f b in omega arith

-- what is taken out of a bag
pub total_without : (f : NumberedHandle → ℕ) (h : NumberedHandle) (l : List NumberedHandle) → Has h l → total f l ≡ f h + total f (without same_handle h l)
total_without f h [] has = absurd has
total_without f h (y ∷ l) has =
    cond_both (same_handle h y) l (y ∷ without same_handle h l) (λ (r : List NumberedHandle). total f (y ∷ l) ≡ f h + total f r)
    (λ e. ap (λ u. f u + total f l) (sym (same_handle_true h y e)))
    (λ e. ⊎_elim
    (λ (s : h ≡ y). absurd (cc (e, handle_self h, ap (same_handle h) s)))
    (λ t. let ih = total_without f h l t in omega arith) has)

abbrev pub one_like : NumberedHandle → NumberedHandle → ℕ
one_like h x = cond (same_handle h x) 1 0

-- what is counted in a bag is there
pub counted_has : (h : NumberedHandle) (l : List NumberedHandle) → 0 < total (one_like h) l → Has h l
counted_has h [] lt = absurd (omega arith)
counted_has h (y ∷ l) lt =
    ⊎_elim (λ (e : same_handle h y ≡ true). inl (same_handle_true h y e))
    (λ (e : same_handle h y ≡ false). inr (counted_has h l (let z : one_like h y ≡ 0 = cond-false (same_handle h y) 1 0 e in omega arith)))
    (both (same_handle h y))
  where
    both : (b : Bool) → (b ≡ true) ⊎ (b ≡ false)
    both true = inl refl
    both false = inr refl

-- the number of a bag's handles
pub total_one : {A : Type 0} (l : List A) → total (λ x. 1) l ≡ length l
total_one [] = refl
total_one (x ∷ l) = let ih = total_one l in omega arith

worth_one : (s : Slot) → slot_worth (λ h. 1) s ≤ is_filled s
worth_one None = omega arith
worth_one (Some h) = cond_both (has_object (as_listed h)) 1 0 (λ (n : ℕ). n ≤ 1) (λ e. omega arith) (λ e. omega arith)

-- slots with objects are filled
pub spread_one : (ss : List Slot) → total (slot_worth (λ h. 1)) ss ≤ total is_filled ss
spread_one [] = omega arith
spread_one (s ∷ ss) = let ih = spread_one ss in let one = worth_one s in omega arith

-- and a slot with an empty handle is one more
spread_less : (ss : List Slot) (i : ℕ) (h : Held) → slice_get ss i ≡ Some (Some h) → has_object (as_listed h) ≡ false
    → total (slot_worth (λ h. 1)) ss < total is_filled ss
spread_less [] i h e bare = absurd (cc e)
spread_less (s ∷ ss) zero h e bare =
    let p : s ≡ Some h = cc e in let ih = spread_one ss in
    let a : slot_worth (λ g. 1) s ≡ slot_worth (λ g. 1) (Some h) = ap (slot_worth (λ g. 1)) p in let b : is_filled s ≡ 1 = ap is_filled p in
    let z : slot_worth (λ g. 1) (Some h) ≡ 0 = cond-false (has_object (as_listed h)) 1 0 bare in omega arith
spread_less (s ∷ ss) (suc i) h e bare = let ih = spread_less ss i h e bare in let one = worth_one s in omega arith

-- a bag with a handle more
came : (f : NumberedHandle → ℕ) (h : Held) (l : List NumberedHandle) → total f (with_held h l) ≡ slot_worth f (Some h) + total f l
came f (Owner h) l = go kind.Owner h.block h.place
  where
    go : (k : Kind) (b : Option Block) (p : Option Place)
        → total f (with_handle k b p l) ≡ cond (has_object (handle k (number_of_block b) p)) (f (handle k (number_of_block b) p)) 0 + total f l
    go k None p = omega arith
    go k (Some b) p = omega arith
came f (Weak h) l = go kind.Weak h.block h.place
  where
    go : (k : Kind) (b : Option Block) (p : Option Place)
        → total f (with_handle k b p l) ≡ cond (has_object (handle k (number_of_block b) p)) (f (handle k (number_of_block b) p)) 0 + total f l
    go k None p = omega arith
    go k (Some b) p = omega arith

module _ {V : Type 0} where
  -- what lies in a slot is held
  pub fits_at : (d : DeskNow V) (ss : List Slot) (i : ℕ) (h : Held) → FitsSlots d ss → slice_get ss i ≡ Some (Some h) → IsHeldByDesk d h
  fits_at d ss i (Owner h) fits at = go kind.Owner h.block h.place (Owner h) at refl
    where
      go : (k : Kind) (b : Option Block) (p : Option Place) (x : Held) → slice_get ss i ≡ Some (Some x)
          → as_listed x ≡ handle k (number_of_block b) p → HoldsHandle d k b p
      go k None p x at is =
          let less = spread_less ss i x at (ap has_object is) in
          let a = fits.bag (λ h. 1) in let b = total_one (bag_of d) in let c = fits.held in omega arith
      go k (Some b) p x at is =
          let h = handle k (Some b.0) p in
          let a = fits.bag (one_like h) in
          let c = total_at (slot_worth (one_like h)) ss i (Some x) at in
          let one : one_like h h ≡ 1 = cond-true (same_handle h h) 1 0 (handle_self h) in
          let w : slot_worth (one_like h) (Some x) ≡ one_like h h = ap (λ (y : NumberedHandle). cond (has_object y) (one_like h y) 0) is in
          counted_has h (bag_of d) (omega arith)
  fits_at d ss i (Weak h) fits at = go kind.Weak h.block h.place (Weak h) at refl
    where
      go : (k : Kind) (b : Option Block) (p : Option Place) (x : Held) → slice_get ss i ≡ Some (Some x)
          → as_listed x ≡ handle k (number_of_block b) p → HoldsHandle d k b p
      go k None p x at is =
          let less = spread_less ss i x at (ap has_object is) in
          let a = fits.bag (λ h. 1) in let b = total_one (bag_of d) in let c = fits.held in omega arith
      go k (Some b) p x at is =
          let h = handle k (Some b.0) p in
          let a = fits.bag (one_like h) in
          let c = total_at (slot_worth (one_like h)) ss i (Some x) at in
          let one : one_like h h ≡ 1 = cond-true (same_handle h h) 1 0 (handle_self h) in
          let w : slot_worth (one_like h) (Some x) ≡ one_like h h = ap (λ (y : NumberedHandle). cond (has_object y) (one_like h y) 0) is in
          counted_has h (bag_of d) (omega arith)

  went : (d : DeskNow V) (f : NumberedHandle → ℕ) (h : Held) → IsHeldByDesk d h
      → total f (bag_of d) ≡ slot_worth f (Some h) + total f (without_held h (bag_of d))
  went d f (Owner h) held = go kind.Owner h.block h.place held
    where
      go : (k : Kind) (b : Option Block) (p : Option Place) → HoldsHandle d k b p
          → total f (bag_of d) ≡ cond (has_object (handle k (number_of_block b) p)) (f (handle k (number_of_block b) p)) 0 + total f
          (without_handle k b p (bag_of d))
      go k None p holds = omega arith
      go k (Some b) p holds = total_without f (handle k (Some b.0) p) (bag_of d) holds
  went d f (Weak h) held = go kind.Weak h.block h.place held
    where
      go : (k : Kind) (b : Option Block) (p : Option Place) → HoldsHandle d k b p
          → total f (bag_of d) ≡ cond (has_object (handle k (number_of_block b) p)) (f (handle k (number_of_block b) p)) 0 + total f
          (without_handle k b p (bag_of d))
      go k None p holds = omega arith
      go k (Some b) p holds = total_without f (handle k (Some b.0) p) (bag_of d) holds

  -- a handle came, and is in hand
  pub fits_more : (d e : DeskNow V) (ss : List Slot) (h : Held) → FitsSlots d ss → bag_of e ≡ with_held h (bag_of d) → e.held ≡ d.held + 1
      → FitsSlots e (Some h ∷ ss)
  fits_more d e ss h fits bag held =
      record {
        bag = λ f. let a = fits.bag f in let b = ap (total f) bag in let c = came f h (bag_of d) in omega arith;
        held = let a = fits.held in omega arith;
      }

  -- it went into a slot, and what lay there is in hand
  pub fits_swap : (d : DeskNow V) (ss : List Slot) (i : ℕ) (x old : Slot) → FitsSlots d (x ∷ ss) → slice_get ss i ≡ Some old
      → FitsSlots d (old ∷ set ss i x)
  fits_swap d ss i x old fits at =
      record {
        bag = λ f. let a = fits.bag f in let b = total_set (slot_worth f) ss i old x at in omega arith;
        held = let a = fits.held in let b = total_set is_filled ss i old x at in omega arith;
      }

  -- nothing in hand
  pub fits_none : (d : DeskNow V) (ss : List Slot) → FitsSlots d (None ∷ ss) → FitsSlots d ss
  fits_none d ss fits = record { bag = λ f. let a = fits.bag f in omega arith; held = let a = fits.held in omega arith }

  pub fits_hand : (d : DeskNow V) (ss : List Slot) → FitsSlots d ss → FitsSlots d (None ∷ ss)
  fits_hand d ss fits = record { bag = λ f. let a = fits.bag f in omega arith; held = let a = fits.held in omega arith }

  -- a handle went out of its slot, and is in hand
  pub fits_out : (d : DeskNow V) (ss : List Slot) (i : ℕ) (h : Held) → FitsSlots d ss → slice_get ss i ≡ Some (Some h)
      → FitsSlots d (Some h ∷ set ss i None)
  fits_out d ss i h fits at = fits_swap d ss i None (Some h) (fits_hand d ss fits) at

  -- what is in hand left the desk
  pub fits_less : (d e : DeskNow V) (ss : List Slot) (h : Held) → FitsSlots d (Some h ∷ ss) → bag_of e ≡ without_held h (bag_of d)
      → e.held + 1 ≡ d.held → FitsSlots e ss
  fits_less d e ss h fits bag held =
      let is : IsHeldByDesk d h = fits_at d (Some h ∷ ss) 0 h fits refl in
      record {
        bag = λ f. let a = fits.bag f in let b = ap (total f) bag in let c = went d f h is in omega arith;
        held = let a = fits.held in omega arith;
      }

  -- what is in hand was exchanged for another
  pub fits_exchange : (d e : DeskNow V) (ss : List Slot) (x y : Held) → FitsSlots d (Some x ∷ ss)
      → bag_of e ≡ with_held y (without_held x (bag_of d)) → e.held ≡ d.held
      → FitsSlots e (Some y ∷ ss)
  fits_exchange d e ss x y fits bag held =
      let is : IsHeldByDesk d x = fits_at d (Some x ∷ ss) 0 x fits refl in
      record {
        bag = λ f. let a = fits.bag f in let b = ap (total f) bag in let c = went d f x is in let n = came f y (without_held x (bag_of d)) in omega arith;
        held = let a = fits.held in omega arith;
      }

  -- the last slot is in hand
  pub fits_last : (d : DeskNow V) (rs : List Slot) (x : Slot) → FitsSlots d (rs ++ x ∷ []) → FitsSlots d (x ∷ rs)
  fits_last d rs x fits =
      record {
        bag = λ f. let a = fits.bag f in let b = total_last (slot_worth f) rs x in omega arith;
        held = let a = fits.held in let b = total_last is_filled rs x in omega arith;
      }

  -- two desks became one, and the other had no handle
  pub fits_joined : (d other e : DeskNow V) (ss : List Slot) → FitsSlots d ss → FitsSlots other [] → IsPermutation (bag_of d ++ bag_of other) (bag_of e)
      → e.held ≡ d.held + other.held → FitsSlots e ss
  fits_joined d other e ss one two bags held =
      record {
        bag = λ f. let a = one.bag f in let b = two.bag f in let c = bags_joined (bag_of d) (bag_of other) (bag_of e) bags f in omega arith;
        held = let a = one.held in let b = two.held in omega arith;
      }

  -- nothing came or went
  pub fits_still : (d e : DeskNow V) (ss : List Slot) → FitsSlots d ss → bag_of e ≡ bag_of d → e.held ≡ d.held → FitsSlots e ss
  fits_still d e ss fits bag held = record { bag = λ f. ap (total f) bag ∙ fits.bag f; held = held ∙ fits.held }

-- slots that are all vacant
pub vacant_filled : (l : List Slot) → AllVacant l → total is_filled l ≡ 0
vacant_filled [] all = refl
vacant_filled (x ∷ l) all = let ih = vacant_filled l all.1 in let a : is_filled x ≡ 0 = ap is_filled all.0 in omega arith

pub vacant_worth : (f : NumberedHandle → ℕ) (l : List Slot) → AllVacant l → total (slot_worth f) l ≡ 0
vacant_worth f [] all = refl
vacant_worth f (x ∷ l) all = let ih = vacant_worth f l all.1 in let a : slot_worth f x ≡ 0 = ap (slot_worth f) all.0 in omega arith

pub vacant_append : (l : List Slot) → AllVacant l → AllVacant (l ++ None ∷ [])
vacant_append [] all = (refl, tt)
vacant_append (x ∷ l) all = (all.0, vacant_append l all.1)

module _ {V : Type 0} where
  -- a desk without handles
  pub fits_vacant : (d : DeskNow V) (l : List Slot) → AllVacant l → bag_of d ≡ [] → d.held ≡ 0 → FitsSlots d l
  fits_vacant d l all bag none = record { bag = λ f. ap (total f) bag ∙ sym (vacant_worth f l all); held = none ∙ sym (vacant_filled l all) }

-- a slot is still there when its handle went out of it
within : (ss : List Slot) (i : ℕ) (h : Held) → slice_get ss i ≡ Some (Some h) → i < length (set ss i None)
within [] i h at = absurd (cc at)
within (s ∷ ss) zero h at = omega arith
within (s ∷ ss) (suc i) h at = let ih = within ss i h at in omega arith

pub slot_there : (ss ts : List Slot) (i : ℕ) (h : Held) → slice_get ss i ≡ Some (Some h) → ts ≡ set ss i None → i < length ts
slot_there ss ts i h at is = subst (λ (l : List Slot). i < length l) (sym is) (within ss i h at)
