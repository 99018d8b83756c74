-- What an act takes into the hand, of which kind it is, and why it takes nothing.
use Rattle.std.proofs.Common.{◌≡◌, ℕ, zero, suc, ◌+◌, ◌<◌, true, false, ◌≢◌, List, [], ◌∷◌}
use Rattle.std.proofs.Common.{length, slice_get, slice_set, Some, None, Option, sym, refl, ap}
use Rattle.std.proofs.Common.{◌∙◌, subst, arith, length-set, set-set}
use Rattle.script_runner.proofs.Prelude
use Prelude.{ActResult, aliased, BadWeak, Comes, DeskNow, Field, fits_at, Form, Full, HasKind, Held}
use Prelude.{IsActed, IsBelow, IsCopy, IsHand, IsOwner, IsPointer, IsWeak, KeepsKinds, Kind}
use Prelude.{kind_of_held, LeavesSlot, Owner, Place, Refusal, set_comm, SetsKind, Shared, slot_kinds}
use Prelude.{stock_of, TableNow, TakesKind, Weak, WhyNotThis}
use Rattle.control_block.specs.declared.handles.Weak as weak_handle
use Rattle.control_word.specs.declared.model.handle.Kind.TheVariants as kind
use Rattle.script_runner.specs.SlotCalls as calls
use Rattle.script_runner.specs.Handles as handles
use Rattle.script_runner.specs.This as this
use Rattle.script_runner.proofs.Acting as law
use Rattle.script_runner.proofs.Inquiring as inquiring
use Rattle.script_runner.proofs.Putting.{slice_get-set_other}
use Rattle.script_runner.proofs.Refusals.{comes_kind, kinds_kept, kind_of_slot, kinds_set, kind_within}
use Rattle.script_runner.proofs.Seating.{same_some}
use Rattle.script_runner.proofs.TableLaws.{as_seated}
use Rattle.shared_handle.proofs.Owned.{points_well}
use Rattle.step_table.specs.AtomicSteps.{field_number}
use Rattle.step_table.specs.declared.memory.field.Field.TheVariants.{Zero, One, Two, Three}
use Rattle.step_threads.specs.declared.programs.act.Act.TheVariants as act
use Rattle.step_threads.specs.declared.said.Answer.TheVariants as answer

-- an owner came, or a weak handle
pub owner_kind : (by : DeskNow ℕ → Shared → DeskNow ℕ → Type 0) (t u : TableNow ℕ) (to : ℕ) → Comes (IsOwner by) t to u
    → SetsKind to (Some kind.Owner) t u
owner_kind by t u to c = comes_kind (IsOwner by) t u to kind.Owner c (ap kind_of_held c.comes.is)

pub weak_kind : (by : DeskNow ℕ → weak_handle.Weak → DeskNow ℕ → Type 0) (t u : TableNow ℕ) (to : ℕ) → Comes (IsWeak by) t to u
    → SetsKind to (Some kind.Weak) t u
weak_kind by t u to c = comes_kind (IsWeak by) t u to kind.Weak c (ap kind_of_held c.comes.is)

-- a copy is of the kind of what it copies
copy_kind : (of h : Held) (d e : DeskNow ℕ) → IsCopy of d h e → kind_of_held h ≡ kind_of_held of
copy_kind (Owner x) h d e c = ap kind_of_held c.is
copy_kind (Weak x) h d e c = ap kind_of_held c.is

pub copied_kind : (i to : ℕ) (t u : TableNow ℕ) (k : Kind) → HasKind t.slots i k → calls.Copies t i to u → SetsKind to (Some k) t u
copied_kind i to t u k has c =
    comes_kind (IsCopy c.of) t u to k c.copy
    (copy_kind c.of c.copy.handle t.desk c.copy.between c.copy.comes ∙ kind_of_slot t.slots i c.of k c.at has)

-- what was taken out of a list and is put back
set_own : {A : Type 0} (l : List A) (i : ℕ) (x : A) → slice_get l i ≡ Some x → slice_set l i x ≡ l
set_own [] i x at = refl
set_own (y ∷ l) zero x at = ap (λ z. z ∷ l) (sym (same_some y x at))
set_own (y ∷ l) (suc i) x at = ap (λ m. y ∷ m) (set_own l i x at)

put_back : {A : Type 0} (l : List A) (i j : ℕ) (x y z : A) → i ≢ j → slice_get l i ≡ Some x
    → slice_set (slice_set (slice_set l i y) j z) i x ≡ slice_set l j z
put_back l i j x y z apart at =
    set_comm (slice_set l i y) j i z x (λ e. apart (sym e)) ∙ ap (λ m. slice_set m j z) (set-set l i y x ∙ set_own l i x at)

-- a name's handle went into the hand, and the name has an empty one of its kind
pub moved_kind : (i to : ℕ) (t v u : TableNow ℕ) (k : Kind) → i < to → HasKind t.slots i k → calls.MovesSlot t i to v
    → SetsKind i (Some k) v u → SetsKind to (Some k) t u
moved_kind i to t v u k lt has m sets =
    let l = slot_kinds t.slots in
    let moved : slot_kinds v.slots ≡ slice_set (slice_set l i None) to (Some k) =
    ap slot_kinds m.assigns.slots
    ∙ (kinds_set (slice_set t.slots i None) to (Some m.of)
    ∙ (λ q. slice_set (kinds_set t.slots i None q) to (Some (kind_of_slot t.slots i m.of k m.at has q)))) in
    let apart : i ≢ to = λ e. let lt : i < to = lt in omega (arith, lt, e) in
    sets ∙ (ap (λ x. slice_set x i (Some k)) moved ∙ put_back l i to (Some k) None (Some k) apart has)

-- what lay in the hand was vacant, and the name has a slot
pub moved_desk : (i to : ℕ) (t v : TableNow ℕ) → i < to → slice_get t.slots to ≡ Some None → calls.MovesSlot t i to v
    → v.desk ≡ t.desk
moved_desk i to t v lt vacant m =
    let a = m.assigns in
    let none : a.old ≡ None =
    same_some a.old None (sym a.was ∙ (slice_get-set_other t.slots i to None (λ e. let lt : i < to = lt in omega (arith, lt, e)) ∙ vacant)) in
    (subst (λ s. LeavesSlot t.desk t.endings s v.desk v.endings) none a.leaves).0

pub moved_within : (i to : ℕ) (t v : TableNow ℕ) (k : Kind) → HasKind t.slots i k → calls.MovesSlot t i to v → i < length v.slots
moved_within i to t v k has m =
    subst (λ n. i < n)
    (sym (ap length m.assigns.slots ∙ (length-set (slice_set t.slots i None) to (Some m.of) ∙ length-set t.slots i None)))
    (kind_within t.slots i k has)

-- nothing was taken
pub kept_kind : (to : ℕ) (k : Kind) (t u : TableNow ℕ) (x : ActResult) → x.taken ≡ false → KeepsKinds t u → TakesKind to k x.taken t u
kept_kind to k t u x none keeps = subst (λ b. TakesKind to k b t u) (sym none) keeps

-- nothing was taken, for this reason
module _ (hand : ℕ) (t u : TableNow ℕ) (is : IsHand (hand + 1) hand t) (x : ActResult) where
  pub not_upgraded : (i : ℕ) → i < hand → handles.GivesNoOwner t i u → x ≡ law.went false (Some (answer.Refused BadWeak))
      → IsActed hand t false (act.Lock i true) x u × TakesKind hand kind.Owner x.taken t u
  not_upgraded i lt c says = (
    subst (λ y. IsActed hand t false (act.Lock i true) y u) (sym says) (law.upgraded_not hand i t u is lt c),
    kept_kind hand kind.Owner t u x (ap (λ (y : ActResult). y.taken) says) (kinds_kept t u c.rest.0),
  )

  pub not_given : (i : ℕ) (k : Kind) (why : Refusal) → IsBelow t.desk → i < hand → this.IsNoThis t i why → u ≡ t
      → x ≡ law.went false (Some (answer.Refused why))
      → IsActed hand t false (act.FromThis i k) x u × TakesKind hand k x.taken t u
  not_given i k why below lt c same says = (
    subst (λ v. IsActed hand t false (act.FromThis i k) x v) (sym same)
        (subst (λ y. IsActed hand t false (act.FromThis i k) y t) (sym says)
        (inquiring.gives_none hand i t (as_seated (hand + 1) hand t is) k why lt c
        (λ e. below (subst (λ r. WhyNotThis t.desk c.0.block c.0.place r) e c.2)))),
    kept_kind hand k t u x (ap (λ (y : ActResult). y.taken) says) (kinds_kept t u (ap (λ (v : TableNow ℕ). v.slots) same)),
  )

  pub not_made : (form : Form) → stock_of t.desk ≡ [] → u ≡ t → x ≡ law.went false (Some (answer.Refused Full))
      → IsActed hand t false (act.Make form) x u × TakesKind hand kind.Owner x.taken t u
  not_made form none same says = (
    subst (λ v. IsActed hand t false (act.Make form) x v) (sym same)
        (subst (λ y. IsActed hand t false (act.Make form) y t) (sym says) (law.no_room hand t form none)),
    kept_kind hand kind.Owner t u x (ap (λ (y : ActResult). y.taken) says) (kinds_kept t u (ap (λ (v : TableNow ℕ). v.slots) same)),
  )

-- an owner points at one of a block's fields or nowhere, and so does an alias
pub points_in : (m hand j : ℕ) (t : TableNow ℕ) (p : Option Place) → IsHand m hand t → calls.PointsTo t j p → IsPointer p
points_in m hand j t p is c =
    subst IsPointer (sym c.2) (points_well t.desk c.0.block c.0.place is.stands c.0.proper (fits_at t.desk t.slots j (Owner c.0) is.fits c.1))

number_below : (field : Field) → field_number field < 4
number_below Zero = omega arith
number_below One = omega arith
number_below Two = omega arith
number_below Three = omega arith

pub alias_in : (field : Option Field) (p : Option Place) → IsPointer p → IsPointer (aliased field p)
alias_in None p is = tt
alias_in (Some field) None is = tt
alias_in (Some field) (Some p) is = (is.0, is.1, number_below field)
