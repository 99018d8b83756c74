-- The kinds of what a worker's slots have, where one of them becomes empty or vacant.
use Rattle.std.proofs.Common.{◌≡◌, ℕ, zero, suc, ◌+◌, ◌<◌, false, List, [], ◌∷◌, length}
use Rattle.std.proofs.Common.{is_some, slice_get, slice_set, Some, None, Option, sym, refl, ap}
use Rattle.std.proofs.Common.{◌∙◌, subst, arith}
use Rattle.script_runner.proofs.Prelude
use Prelude.{Block, block_of_held, EmptiesSlot, EmptiesSlotWeakly, Gone, HasKind}
use Prelude.{HasNoObject, Held, is_full, KeepsKinds, Kind, kind_in, kind_of_held}
use Prelude.{SetsKind, slot_kinds, slot_pointer, TableNow, thread_slots}
use Rattle.control_word.specs.declared.model.handle.Kind.TheVariants as kind
use Rattle.script_runner.specs.SlotCalls as calls
use Rattle.script_runner.specs.Tables as table
use Rattle.script_runner.proofs.Putting.{slice_get-set_other, slice_get-set_same}
use Rattle.script_runner.proofs.Refusals as refusals
use Rattle.script_runner.proofs.Seating.{same_some}
use Rattle.script_runner.proofs.WorldStates.{full_shown}

-- what is there already is put there
pub set_again : {A : Type 0} (l : List A) (i : ℕ) (x : A) → slice_get l i ≡ Some x → slice_set l i x ≡ l
set_again [] i x e = refl
set_again (y ∷ l) zero x e = ap (λ z. z ∷ l) (sym (same_some y x e))
set_again (y ∷ l) (suc i) x e = ap (λ z. y ∷ z) (set_again l i x e)

-- a slot that had a handle of the kind has one again
pub kinds_again : (t u : TableNow ℕ) (i : ℕ) (k : Kind) → HasKind t.slots i k → SetsKind i (Some k) t u → KeepsKinds t u
kinds_again t u i k has sets = sets ∙ set_again (slot_kinds t.slots) i (Some k) has

-- the slot has an empty handle now
abbrev pub IsBareAt : TableNow ℕ → ℕ → TableNow ℕ → Type 0
IsBareAt t i u = (h : Held) × (u.slots ≡ slice_set t.slots i (Some h)) × (block_of_held h ≡ None)

-- and so no object
pub bare_after : (t u v : TableNow ℕ) (i : ℕ) → i < length t.slots → IsBareAt t i u → v ≡ u → (s : table.Slot) → slice_get v.slots i ≡ Some s
    → HasNoObject s
bare_after t u v i lt is same s at =
    let set : v.slots ≡ slice_set t.slots i (Some is.0) = ap (λ (w : TableNow ℕ). w.slots) same ∙ is.1 in
    let has : Some is.0 ≡ s =
    same_some (Some is.0) s (sym (slice_get-set_same t.slots i (Some is.0) lt) ∙ (ap (λ l. slice_get l i) (sym set) ∙ at)) in
    subst HasNoObject has is.2

module _ (t u : TableNow ℕ) (i : ℕ) where
  -- an owner of nothing is of the kind that the name has, if that is an owner's
  pub owner_set : (ks : List Kind) → EmptiesSlot t i u → slice_get ks i ≡ Some kind.Owner → (k : Kind) → slice_get ks i ≡ Some k
      → SetsKind i (Some k) t u
  owner_set ks c at k e =
      refusals.handle_kind t u i c.handle k c.assigns.slots (ap kind_of_held c.comes.is ∙ same_some kind.Owner k (sym at ∙ e))

  pub weak_set : (ks : List Kind) → EmptiesSlotWeakly t i u → slice_get ks i ≡ Some kind.Weak → (k : Kind) → slice_get ks i ≡ Some k
      → SetsKind i (Some k) t u
  weak_set ks c at k e =
      refusals.handle_kind t u i c.handle k c.assigns.slots (ap kind_of_held c.comes.is ∙ same_some kind.Weak k (sym at ∙ e))

  pub owner_bare : EmptiesSlot t i u → IsBareAt t i u
  owner_bare c = (c.handle, c.assigns.slots, ap block_of_held c.comes.is ∙ c.comes.event.0)

  pub weak_bare : EmptiesSlotWeakly t i u → IsBareAt t i u
  weak_bare c = (c.handle, c.assigns.slots, ap block_of_held c.comes.is ∙ c.comes.event.0)

  -- what a slot had left
  pub reset_set : (gone : Gone) → calls.Resets t i gone u → SetsKind i None t u
  reset_set gone c = ap slot_kinds c.slots ∙ refusals.kinds_set t.slots i None

no_block : (b : Option Block) → is_some b ≡ false → b ≡ None
no_block None e = refl
no_block (Some b) e = absurd cc

-- a slot without an object
pub free_bare : (hand i : ℕ) (t : TableNow ℕ) → i < hand → is_full (slot_pointer (thread_slots hand t) i) ≡ false → (s : table.Slot)
    → slice_get t.slots i ≡ Some s → HasNoObject s
free_bare hand i t lt free None at = tt
free_bare hand i t lt free (Some h) at = no_block (block_of_held h) (sym (full_shown (hand + 1) i t h (omega (arith, lt)) at) ∙ free)

-- a slot that is vacant becomes so
pub vacant_set : (t : TableNow ℕ) (i : ℕ) → slice_get t.slots i ≡ Some None → SetsKind i None t t
vacant_set t i at = sym (set_again (slot_kinds t.slots) i None (refusals.kind_at_handle t.slots i None at))

-- what is in hand goes to a name of its kind
module _ (t u : TableNow ℕ) (hand i : ℕ) (k : Kind) (lt : i < hand) (full : HasKind t.slots hand k) where
  pub put_set : HasKind t.slots i k → calls.MovesSlot t hand i u → SetsKind hand None t u
  put_set has c =
      let is : kind_of_held c.of ≡ k = refusals.kind_of_slot t.slots hand c.of k c.at full in
      ap slot_kinds c.assigns.slots
      ∙ (refusals.kinds_set (slice_set t.slots hand None) i (Some c.of)
      ∙ (ap (λ l. slice_set l i (kind_in (Some c.of))) (refusals.kinds_set t.slots hand None)
      ∙ (ap (λ q. slice_set (slice_set (slot_kinds t.slots) hand None) i (Some q)) is
      ∙ set_again (slice_set (slot_kinds t.slots) hand None) i (Some k)
      (slice_get-set_other (slot_kinds t.slots) hand i None (λ e. let no : ⊥ = omega (arith, lt, e) in absurd no) ∙ has))))
