-- How calls on cells change the kinds of what slots have.
use Rattle.std.proofs.Common.{◌≡◌, ℕ, zero, suc, ◌+◌, ◌-◌, ◌≤◌, Bool, true, false, List, [], ◌∷◌}
use Rattle.std.proofs.Common.{length, slice_get, slice_set, Some, None, Option, sym, refl, ap, ◌∙◌}
use Rattle.std.proofs.Common.{arith, length-set, set-set}
use Rattle.script_runner.proofs.Prelude.{CellName, ComparesSlots, Copies, DeskNow}
use Rattle.script_runner.proofs.Prelude.{ExchangesSlot, FitsSlots, HasKind, Held, IsCopy, IsSeated}
use Rattle.script_runner.proofs.Prelude.{KeepsKinds, Kind, kind_at, kind_in, kind_of_held}
use Rattle.script_runner.proofs.Prelude.{length-map, LoadsIntoSlot, MovesSlot, Owner, SetsAside}
use Rattle.script_runner.proofs.Prelude.{SetsKind, slot_kinds, Standing, TableNow, Weak}
use Rattle.script_runner.proofs.Refusals.{comes_kind, kind_of_slot, kinds_set}
use Rattle.script_runner.proofs.Seating.{same_some}

-- what is there already
set_here : {A : Type 0} (l : List A) (i : ℕ) (x : A) → slice_get l i ≡ Some x → slice_set l i x ≡ l
set_here [] i x e = refl
set_here (y ∷ l) zero x e = ap (λ z. z ∷ l) (sym (same_some y x e))
set_here (y ∷ l) (suc i) x e = ap (λ z. y ∷ z) (set_here l i x e)

copy_kind : (of h : Held) (d e : DeskNow ℕ) → IsCopy of d h e → kind_of_held h ≡ kind_of_held of
copy_kind (Owner o) h d e is = ap kind_of_held is.is
copy_kind (Weak w) h d e is = ap kind_of_held is.is

module _ (t u : TableNow ℕ) where
  pub copied_kind : (i hand : ℕ) (k : Kind) → HasKind t.slots i k → Copies t i hand u → SetsKind hand (Some k) t u
  copied_kind i hand k has x =
      comes_kind (IsCopy x.of) t u hand k x.copy
      (copy_kind x.of x.copy.handle t.desk x.copy.between x.copy.comes ∙ kind_of_slot t.slots i x.of k x.at has)

  module _ (c : CellName) where
    pub loaded_kind : (hand : ℕ) → LoadsIntoSlot t c hand u → SetsKind hand (Some (kind_at c)) t u
    loaded_kind hand x = comes_kind _ t u hand (kind_at c) x.loads x.loads.comes.0

    pub exchanged_kinds : (i : ℕ) → HasKind t.slots i (kind_at c) → ExchangesSlot t i c u → KeepsKinds t u
    exchanged_kinds i has x =
        let ks = slot_kinds t.slots in
        ap slot_kinds x.assigns.slots
        ∙ (kinds_set (slice_set t.slots i None) i (Some x.old)
        ∙ (ap (λ l. slice_set l i (kind_in (Some x.old))) (kinds_set t.slots i None)
        ∙ (set-set ks i None (kind_in (Some x.old))
        ∙ (ap (λ k. slice_set ks i (Some k)) (x.swaps.kinds.1) ∙ set_here ks i (Some (kind_at c)) has))))

    pub differed_kinds : (weak : Bool) (i hand : ℕ) → HasKind t.slots i (kind_at c) → ComparesSlots weak t c i hand false u → KeepsKinds t u
    differed_kinds weak i hand has x =
        let ks = slot_kinds t.slots in
        let f = x.follows in
        ap slot_kinds f.slots
        ∙ (kinds_set t.slots i (Some x.found)
        ∙ (ap (λ k. slice_set ks i (Some k)) (x.kinds.2) ∙ set_here ks i (Some (kind_at c)) has))

    pub swapped_kind : (weak : Bool) (i hand : ℕ) → ComparesSlots weak t c i hand true u → SetsKind hand None t u
    swapped_kind weak i hand x = let f = x.follows in ap slot_kinds f.2 ∙ kinds_set t.slots hand None

  pub moved_aside : (hand : ℕ) → MovesSlot t hand (hand - 1) u → SetsAside hand t u
  moved_aside hand x = (
    kind_in (Some x.of),
    ap slot_kinds x.assigns.slots
        ∙ (kinds_set (slice_set t.slots hand None) (hand - 1) (Some x.of)
        ∙ ap (λ l. slice_set l (hand - 1) (kind_in (Some x.of))) (kinds_set t.slots hand None)),
  )

  many_by : length (slot_kinds u.slots) ≡ length (slot_kinds t.slots) → length u.slots ≡ length t.slots
  many_by same = sym (length-map u.slots kind_in) ∙ (same ∙ length-map t.slots kind_in)

  -- the hand is the last of the slots still
  seated_by : (hand : ℕ) → IsSeated (hand + 1) hand t → FitsSlots u.desk u.slots → Standing u.desk
      → length (slot_kinds u.slots) ≡ length (slot_kinds t.slots) → IsSeated (hand + 1) hand u
  seated_by hand is fits stands same =
      let many : hand + 1 ≤ length u.slots = let a = is.many in let b = many_by same in omega (arith, a, b) in
      record { fits = fits; stands = stands; many = many; last = refl }

  module _ (hand : ℕ) (is : IsSeated (hand + 1) hand t) (fits : FitsSlots u.desk u.slots) (stands : Standing u.desk) where
    pub seated_kept : KeepsKinds t u → IsSeated (hand + 1) hand u
    seated_kept same = seated_by hand is fits stands (ap length same)

    pub seated_set : (i : ℕ) (k : Option Kind) → SetsKind i k t u → IsSeated (hand + 1) hand u
    seated_set i k same = seated_by hand is fits stands (ap length same ∙ length-set (slot_kinds t.slots) i k)

-- where the kinds were kept before
pub kept_aside : (t v u : TableNow ℕ) (hand : ℕ) → KeepsKinds t v → SetsAside hand v u → SetsAside hand t u
kept_aside t v u hand kept x = (x.0, x.1 ∙ ap (λ l. slice_set (slice_set l hand None) (hand - 1) x.0) kept)

pub kept_kind : (t v : TableNow ℕ) (i : ℕ) (k : Kind) → KeepsKinds t v → HasKind t.slots i k → HasKind v.slots i k
kept_kind t v i k kept has = ap (λ l. slice_get l i) kept ∙ has

pub kept_vacant : (t v : TableNow ℕ) (i : ℕ) → KeepsKinds t v → slice_get (slot_kinds t.slots) i ≡ Some None
    → slice_get (slot_kinds v.slots) i ≡ Some None
kept_vacant t v i kept none = ap (λ l. slice_get l i) kept ∙ none
