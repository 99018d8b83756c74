-- What is in a slot of a kind, and how calls change the kinds of what slots have.
use Rattle.std.proofs.Common.{◌≡◌, ℕ, zero, suc, ◌<◌, List, [], ◌∷◌, length, slice_get}
use Rattle.std.proofs.Common.{slice_set, Some, None, option_map, sym, refl, ap, ◌∙◌, subst}
use Rattle.script_runner.proofs.Prelude.{Comes, DeskNow, HasKind, Held, IsBelow, IsHandleAt, IsOwnerAt}
use Rattle.script_runner.proofs.Prelude.{IsVacant, IsWeakAt, KeepsKinds, Kind, kind_in, kind_of_held}
use Rattle.script_runner.proofs.Prelude.{Owner, SetsKind, slice_get_within, slot_kinds, TableNow, Weak}
use Rattle.std.proofs.lemmas.Option.{slice_get-map}
use Rattle.control_word.specs.declared.model.handle.Kind.TheVariants as kind
use Rattle.script_runner.specs.Tables as table
use Rattle.script_runner.proofs.Seating.{same_some}

-- the kinds of what slots have, by the slots and back
pub kind_at_handle : (ss : List table.Slot) (i : ℕ) (s : table.Slot) → slice_get ss i ≡ Some s → slice_get (slot_kinds ss) i ≡ Some (kind_in s)
kind_at_handle ss i s at = slice_get-map kind_in ss i ∙ ap (option_map kind_in) at

pub handle_of_kind : (ss : List table.Slot) (i : ℕ) (k : Kind) → HasKind ss i k
    → (h : Held) × (slice_get ss i ≡ Some (Some h)) × (kind_of_held h ≡ k)
handle_of_kind [] i k has = absurd cc
handle_of_kind (None ∷ ss) zero k has = let e = same_some None (Some k) has in absurd cc
handle_of_kind (Some h ∷ ss) zero k has =
    (h, refl, same_some (kind_of_held h) k (same_some (Some (kind_of_held h)) (Some k) has))
handle_of_kind (s ∷ ss) (suc i) k has = handle_of_kind ss i k has

pub vacant_slot : (ss : List table.Slot) (i : ℕ) → IsVacant ss i → slice_get ss i ≡ Some None
vacant_slot [] i none = absurd cc
vacant_slot (None ∷ ss) zero none = refl
vacant_slot (Some h ∷ ss) zero none = let e = same_some (Some (kind_of_held h)) None none in absurd cc
vacant_slot (s ∷ ss) (suc i) none = vacant_slot ss i none

pub vacant_kind : (ss : List table.Slot) (i : ℕ) → slice_get ss i ≡ Some None → IsVacant ss i
vacant_kind ss i at = kind_at_handle ss i None at

pub kind_within : (ss : List table.Slot) (i : ℕ) (k : Kind) → HasKind ss i k → i < length ss
kind_within ss i k has = let h = handle_of_kind ss i k has in slice_get_within ss i (Some h.0) h.1

-- a slot's kind is one
pub same_kind : (ss : List table.Slot) (i : ℕ) (k l : Kind) → HasKind ss i k → HasKind ss i l → k ≡ l
same_kind ss i k l has too = same_some k l (same_some (Some k) (Some l) (sym has ∙ too))

-- the slot has a handle of the kind
pub kind_of_slot : (ss : List table.Slot) (i : ℕ) (h : Held) (k : Kind) → slice_get ss i ≡ Some (Some h) → HasKind ss i k → kind_of_held h ≡ k
kind_of_slot ss i h k at has = same_kind ss i (kind_of_held h) k (kind_at_handle ss i (Some h) at) has

pub kinds_set : (ss : List table.Slot) (i : ℕ) (s : table.Slot) → slot_kinds (slice_set ss i s) ≡ slice_set (slot_kinds ss) i (kind_in s)
kinds_set [] i s = refl
kinds_set (x ∷ ss) zero s = refl
kinds_set (x ∷ ss) (suc i) s = ap (λ l. kind_in x ∷ l) (kinds_set ss i s)

-- there is a handle, an owner, a weak handle
pub handle_there : (ss : List table.Slot) (i : ℕ) (k : Kind) → HasKind ss i k → IsHandleAt ss i
handle_there ss i k has = let h = handle_of_kind ss i k has in (h.0, h.1)

pub owner_there : (ss : List table.Slot) (i : ℕ) → HasKind ss i kind.Owner → IsOwnerAt ss i
owner_there ss i has = let x = handle_of_kind ss i kind.Owner has in go x.0 x.1 x.2
  where
    go : (h : Held) → slice_get ss i ≡ Some (Some h) → kind_of_held h ≡ kind.Owner → IsOwnerAt ss i
    go (Owner o) at is = (o, at)
    go (Weak w) at is = absurd cc

pub weak_there : (ss : List table.Slot) (i : ℕ) → HasKind ss i kind.Weak → IsWeakAt ss i
weak_there ss i has = let x = handle_of_kind ss i kind.Weak has in go x.0 x.1 x.2
  where
    go : (h : Held) → slice_get ss i ≡ Some (Some h) → kind_of_held h ≡ kind.Weak → IsWeakAt ss i
    go (Weak w) at is = (w, at)
    go (Owner o) at is = absurd cc

module _ {V : Type 0} where
  pub below_same : (t u : TableNow V) → u.desk ≡ t.desk → IsBelow t.desk → IsBelow u.desk
  below_same t u same below = subst (λ (d : DeskNow V). IsBelow d) (sym same) below

-- a handle went into a slot
pub handle_kind : (t u : TableNow ℕ) (to : ℕ) (h : Held) (k : Kind) → u.slots ≡ slice_set t.slots to (Some h) → kind_of_held h ≡ k
    → SetsKind to (Some k) t u
handle_kind t u to h k set is =
    ap slot_kinds set ∙ (kinds_set t.slots to (Some h) ∙ ap (λ x. slice_set (slot_kinds t.slots) to (Some x)) is)

-- or into any
pub comes_kind : (came : DeskNow ℕ → Held → DeskNow ℕ → Type 0) (t u : TableNow ℕ) (to : ℕ) (k : Kind) (c : Comes came t to u)
    → kind_of_held c.handle ≡ k → SetsKind to (Some k) t u
comes_kind came t u to k c is = handle_kind t u to c.handle k c.assigns.slots is

-- the slots are as they were
pub kinds_kept : (t u : TableNow ℕ) → u.slots ≡ t.slots → KeepsKinds t u
kinds_kept t u same = ap slot_kinds same
