-- What a compare does to the handles that a desk has.
use Rattle.std.proofs.Common.{◌≡◌, ℕ, zero, suc, ◌+◌, ◌<◌, Bool, true, false, cond, List, [], ◌∷◌}
use Rattle.std.proofs.Common.{length, get_or, set, slice_get, Some, None, sym, refl, ap, ◌∙◌}
use Rattle.std.proofs.Common.{arith}
use Rattle.script_runner.proofs.TablePrelude.{bag_of, block_of_held, cond-false, cond-true, DeskNow}
use Rattle.script_runner.proofs.TablePrelude.{FitsSlots, Held, HoldsHandle, IsKindAt, Kind, kind_of_held}
use Rattle.script_runner.proofs.TablePrelude.{place_of_held, Slot, with_held, without_handle}
use Rattle.control_block.specs.declared.cell_calls.Content.{Content}
use Rattle.std.proofs.lemmas.Option.{same_Some}
use Rattle.script_runner.specs.Parts.{IsContent}
use Rattle.script_runner.proofs.CellSites.{by_parts, held_parts, without_named}
use Rattle.script_runner.proofs.Filling.{fits_at, fits_exchange, fits_more, fits_out}

-- what is found in a list lies below its length
pub found_below : {A : Type 0} (l : List A) (i : ℕ) (x : A) → slice_get l i ≡ Some x → i < length l
found_below [] i x e = absurd (cc e)
found_below (a ∷ l) zero x e = omega arith
found_below (a ∷ l) (suc i) x e = let ih = found_below l i x e in omega arith

-- the element at a place below the length is there
pub is_there : {A : Type 0} (l : List A) (i : ℕ) (x : A) → i < length l → x ≡ get_or l i x → slice_get l i ≡ Some x
is_there [] i x less e = absurd (omega (arith, less))
is_there (a ∷ l) zero x less e = ap (λ (y : _). Some y) (sym e)
is_there (a ∷ l) (suc i) x less e = is_there l i x (omega (arith, less)) e

-- what is put where it lies already changes nothing
pub put_same : {A : Type 0} (l : List A) (i : ℕ) (x : A) → slice_get l i ≡ Some x → set l i x ≡ l
put_same [] i x e = refl
put_same (a ∷ l) zero x e = ap (λ (y : _). y ∷ l) (sym (cc e))
put_same (a ∷ l) (suc i) x e = ap (λ (m : List _). a ∷ m) (put_same l i x e)

-- a handle that is there has the kind of what is there
pub kind_there : (ss : List Slot) (i : ℕ) (k : Kind) (h : Held) → IsKindAt k ss i → slice_get ss i ≡ Some (Some h) → kind_of_held h ≡ k
kind_there ss i k h (x, at, is) there = ap kind_of_held (same_Some h x (same_Some (Some h) (Some x) (sym there ∙ at))) ∙ is

module _ {V : Type 0} where
  -- a handle in a slot is held
  pub content_held : (d : DeskNow V) (ss : List Slot) (i : ℕ) (h : Held) (x : Content) (k : Kind) → FitsSlots d ss → slice_get ss i ≡ Some (Some h)
      → IsContent h x → x.kind ≡ k → HoldsHandle d k x.word.block x.word.place
  content_held d ss i h x k fits at is same =
      by_parts (HoldsHandle d) k (kind_of_held h) x.word.block (block_of_held h) x.word.place (place_of_held h) (sym (is.0 ∙ same)) (sym is.1) (sym is.2)
      (held_parts d h (fits_at d ss i h fits at))

  -- it went into the cell, and what that held is in hand
  pub fits_swapped : (d m : DeskNow V) (ss : List Slot) (i : ℕ) (h y : Held) (x : Content) (k : Kind) (s : Bool) → FitsSlots d ss
      → slice_get ss i ≡ Some (Some h)
      → IsContent h x → x.kind ≡ k → bag_of m ≡ with_held y (cond s (without_handle k x.word.block x.word.place (bag_of d)) (bag_of d))
      → m.held ≡ d.held + cond s 0 1
      → s ≡ true → FitsSlots m (Some y ∷ set ss i None)
  fits_swapped d m ss i h y x k s fits at is same bag held hit =
      let l = bag_of d in
      fits_exchange d m (set ss i None) h y (fits_out d ss i h fits at)
      (bag ∙ ap (with_held y)
      (cond-true s (without_handle k x.word.block x.word.place l) l hit ∙ sym (without_named h k x.word.block x.word.place l (is.0 ∙ same) is.1 is.2)))
      (let z : ◌≡◌ {A = ℕ} (cond s 0 1) 0 = cond-true s 0 1 hit in omega arith)

  -- or it didn't, and a copy of what the cell holds is in hand
  pub fits_differs : (d m : DeskNow V) (ss : List Slot) (y : Held) (x : Content) (k : Kind) (s : Bool) → FitsSlots d ss
      → bag_of m ≡ with_held y (cond s (without_handle k x.word.block x.word.place (bag_of d)) (bag_of d)) → m.held ≡ d.held + cond s 0 1
      → s ≡ false → FitsSlots m (Some y ∷ ss)
  fits_differs d m ss y x k s fits bag held miss =
      let l = bag_of d in
      fits_more d m ss y fits (bag ∙ ap (with_held y) (cond-false s (without_handle k x.word.block x.word.place l) l miss))
      (let z : ◌≡◌ {A = ℕ} (cond s 0 1) 1 = cond-false s 0 1 miss in omega arith)
