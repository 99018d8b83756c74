-- What a thread has in its slots, by those of a table.
use Rattle.std.proofs.Common.{◌≡◌, ℕ, zero, suc, ◌+◌, ◌<◌, ◌≤◌, List, [], ◌∷◌, length, slice_get}
use Rattle.std.proofs.Common.{slice_set, Some, None, Option, sym, refl, ap, ◌∙◌, subst, arith}
use Rattle.script_runner.proofs.Prelude.{as_slot, Block, block_of_held, Comes, counting, DeskNow}
use Rattle.script_runner.proofs.Prelude.{fits_at, FitsSlots, hand, HasHandle, Held, IsHand}
use Rattle.script_runner.proofs.Prelude.{IsQuiet, Kind, kind_of_held, LeavesSlot, Owner, Place}
use Rattle.script_runner.proofs.Prelude.{place_of_held, pointer_of, shown_slots, Slot, slot_by}
use Rattle.script_runner.proofs.Prelude.{slot_pointer, slot_value, TableNow, Weak}
use Rattle.control_block.specs.CellCalls.{HoldsHandle}
use Rattle.control_word.specs.declared.model.handle.Kind.TheVariants as kind
use Rattle.script_runner.specs.Tables as table
use Rattle.script_runner.specs.Calls.{HasPointer}

abbrev or_else : {A : Type 0} → A → Option A → A
or_else a None = a
or_else a (Some x) = x

pub same_some : {A : Type 0} (x y : A) → Some x ≡ Some y → x ≡ y
same_some x y e = ap (or_else x) e

pub shown_set : (m : ℕ) (ss : List table.Slot) (k : ℕ) (s : table.Slot) → shown_slots m (slice_set ss k s) ≡ slice_set (shown_slots m ss) k (as_slot s)
shown_set zero ss k s = refl
shown_set (suc m) [] k s = refl
shown_set (suc m) (x ∷ ss) zero s = refl
shown_set (suc m) (x ∷ ss) (suc k) s = ap (λ l. as_slot x ∷ l) (shown_set m ss k s)

pub shown_at : (m : ℕ) (ss : List table.Slot) (i : ℕ) (s : table.Slot) → i < m → slice_get ss i ≡ Some s
    → slot_value (shown_slots m ss) i ≡ as_slot s
shown_at zero ss i s lt at = let no : ⊥ = omega (arith, lt) in absurd no
shown_at (suc m) [] i s lt at = absurd cc
shown_at (suc m) (x ∷ ss) zero s lt at = ap as_slot (same_some x s at)
shown_at (suc m) (x ∷ ss) (suc i) s lt at = shown_at m ss i s (omega (arith, lt)) at

pub shown_many : (m : ℕ) (ss : List table.Slot) → m ≤ length ss → length (shown_slots m ss) ≡ m
shown_many zero ss le = refl
shown_many (suc m) [] le = let no : ⊥ = omega (arith, le) in absurd no
shown_many (suc m) (x ∷ ss) le = ap suc (shown_many m ss (omega (arith, le)))

-- what a handle's parts tell of its slot
pub as_parts : (h : Held) (k : Kind) (b : Option Block) (p : Option Place) → kind_of_held h ≡ k → block_of_held h ≡ b → place_of_held h ≡ p
    → as_slot (Some h) ≡ slot_by k b p
as_parts h k b p e f g = λ i. slot_by (e i) (f i) (g i)

pub hand_at : (m i : ℕ) (ss : List table.Slot) → m ≤ length ss → i + 1 ≡ m → hand (shown_slots m ss) ≡ i
hand_at m i ss le last = let many = shown_many m ss le in omega (arith, many, last)

module _ {V : Type 0} where
  -- the hand of the thread is that of the table
  pub hand_is : (m i : ℕ) (t : TableNow V) → IsHand m i t → hand (shown_slots m t.slots) ≡ i
  hand_is m i t is = hand_at m i t.slots is.many is.last

  pub has_object : (d : DeskNow V) (ss : List table.Slot) (i : ℕ) (h : Held) (b : Block) → FitsSlots d ss → slice_get ss i ≡ Some (Some h)
      → block_of_held h ≡ Some b → HasHandle d (kind_of_held h) (place_of_held h) b.0
  has_object d ss i (Owner h) b fits at e = subst (λ x. HoldsHandle d kind.Owner x h.place) e (fits_at d ss i (Owner h) fits at)
  has_object d ss i (Weak w) b fits at e = subst (λ x. HoldsHandle d kind.Weak x w.place) e (fits_at d ss i (Weak w) fits at)

  -- the thread has the pointer of a handle in the table
  pub has_pointer : (m i : ℕ) (t : TableNow V) (h : Held) (b : Block) → FitsSlots t.desk t.slots → i < m → slice_get t.slots i ≡ Some (Some h)
      → block_of_held h ≡ Some b → HasPointer V t.desk (shown_slots m t.slots) i (kind_of_held h) b (place_of_held h)
  has_pointer m i t h b fits lt at e =
      record {
        at = ap pointer_of (shown_at m t.slots i (Some h) lt at ∙ as_parts h (kind_of_held h) (Some b) (place_of_held h) refl e refl);
        has = has_object t.desk t.slots i h b fits at e;
      }

  -- it has none of an empty one
  pub no_pointer : (m i : ℕ) (t : TableNow V) (h : Held) → i < m → slice_get t.slots i ≡ Some (Some h)
      → block_of_held h ≡ None → slot_pointer (shown_slots m t.slots) i ≡ None
  no_pointer m i t h lt at e =
      ap pointer_of (shown_at m t.slots i (Some h) lt at ∙ as_parts h (kind_of_held h) None (place_of_held h) refl e refl)

  -- an empty handle came or left
  pub quietly : (d e : DeskNow V) (n : ℕ) → e ≡ counting n d → IsQuiet d e
  quietly d e n is =
      record {
        shape = ap (λ (x : DeskNow V). x.shape) is;
        name = ap (λ (x : DeskNow V). x.name) is;
        seen = ap (λ (x : DeskNow V). x.seen) is;
      }

  -- a handle came into a vacant slot
  pub record Came (came : DeskNow V → Held → DeskNow V → Type 0) (t : TableNow V) (to : ℕ) (u : TableNow V) : Type 0 where
    pub handle : Held
    pub comes : came t.desk handle u.desk
    pub slots : u.slots ≡ slice_set t.slots to (Some handle)
    pub ends : u.endings ≡ t.endings

  pub came_in : (came : DeskNow V → Held → DeskNow V → Type 0) (t : TableNow V) (to : ℕ) (u : TableNow V) → slice_get t.slots to ≡ Some None
      → Comes came t to u → Came came t to u
  came_in came t to u none c =
      let a = c.assigns in
      let is : a.old ≡ None = same_some a.old None (sym a.was ∙ none) in
      let l : LeavesSlot c.between t.endings None u.desk u.endings = subst (λ s. LeavesSlot c.between t.endings s u.desk u.endings) is a.leaves in
      record {
        handle = c.handle;
        comes = subst (λ d. came t.desk c.handle d) (sym l.0) c.comes;
        slots = a.slots;
        ends = l.1;
      }

  -- and is in the hand
  pub in_hand : (m i : ℕ) (t u : TableNow V) (h : Held) (x : Slot) → IsHand m i t → u.slots ≡ slice_set t.slots i (Some h) → as_slot (Some h) ≡ x
      → shown_slots m u.slots ≡ slice_set (shown_slots m t.slots) (hand (shown_slots m t.slots)) x
  in_hand m i t u h x is set same =
      ap (shown_slots m) set
      ∙ (shown_set m t.slots i (Some h)
      ∙ (ap (λ k. slice_set (shown_slots m t.slots) k (as_slot (Some h))) (sym (hand_is m i t is))
      ∙ ap (λ s. slice_set (shown_slots m t.slots) (hand (shown_slots m t.slots)) s) same))
