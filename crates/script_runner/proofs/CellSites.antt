-- Cells that are open to a desk, and handles by what cells see of them.
use Rattle.std.proofs.Common.{◌≡◌, ℕ, zero, suc, ◌+◌, ◌<◌, ◌≤◌, List, nat_lt, Option}
use Rattle.std.proofs.Common.{sym, refl, ◌∙◌, subst, arith, le-ltb, lt-ltb}
use Rattle.script_runner.proofs.TablePrelude
use TablePrelude.{Block, block_of_held, cond-false, cond-true, DeskNow, FitsSlots, Held}
use TablePrelude.{HoldsHandle, IsCellAtSite, IsHeldByDesk, IsInReach, IsOpenAt, Kind, kind_of_held}
use TablePrelude.{NumberedHandle, Owner, Place, place_of_held, Slot, Weak, with_handle, with_held}
use TablePrelude.{without_handle, without_held}
use Rattle.control_word.specs.Layout.{IsWithinLimits}
use Rattle.control_word.specs.State.{kind_of_free, kind_of_member}
use Rattle.control_word.specs.declared.model.handle.Kind.TheVariants as kind
use Rattle.control_word.specs.declared.site.Site.{Site}
use Rattle.step_threads.specs.Programs.{kind_at}
use Rattle.step_threads.specs.declared.programs.call.CellName.{CellName}
use Rattle.step_threads.specs.declared.programs.call.CellName.TheVariants as cell
use Rattle.script_runner.proofs.Filling.{fits_at}

-- the same of other names of the parts
pub by_parts : (P : Kind → Option Block → Option Place → Type 0) (k l : Kind) (b c : Option Block) (p q : Option Place) → k ≡ l → b ≡ c
    → p ≡ q → P l c q → P k b p
by_parts P k l b c p q e f g x = subst (λ z. P z b p) (sym e) (subst (λ z. P l z p) (sym f) (subst (λ z. P l c z) (sym g) x))

-- a list of handles with this one more, and with it less, by its parts
pub with_parts : (h : Held) (l : List NumberedHandle) → with_held h l ≡ with_handle (kind_of_held h) (block_of_held h) (place_of_held h) l
with_parts (Owner h) l = refl
with_parts (Weak w) l = refl

pub without_parts : (h : Held) (l : List NumberedHandle) → without_held h l ≡ without_handle (kind_of_held h) (block_of_held h) (place_of_held h) l
without_parts (Owner h) l = refl
without_parts (Weak w) l = refl

pub with_named : (h : Held) (k : Kind) (b : Option Block) (p : Option Place) (l : List NumberedHandle) → kind_of_held h ≡ k → block_of_held h ≡ b
    → place_of_held h ≡ p
    → with_held h l ≡ with_handle k b p l
with_named h k b p l e f g = with_parts h l ∙ (λ i. with_handle (e i) (f i) (g i) l)

pub without_named : (h : Held) (k : Kind) (b : Option Block) (p : Option Place) (l : List NumberedHandle) → kind_of_held h ≡ k → block_of_held h ≡ b
    → place_of_held h ≡ p
    → without_held h l ≡ without_handle k b p l
without_named h k b p l e f g = without_parts h l ∙ (λ i. without_handle (e i) (f i) (g i) l)

-- of a number among the free cells the kind
few_kind : (m n : ℕ) → n < m → kind.Owner ≡ kind_of_free m n
few_kind m n lt = sym (cond-true (nat_lt n m) kind.Owner kind.Weak (lt-ltb n m lt))

past_kind : (m n : ℕ) → kind.Weak ≡ kind_of_free m (m + n)
past_kind m n = sym (cond-false (nat_lt (m + n) m) kind.Owner kind.Weak (le-ltb (m + n) m (omega arith)))

-- and of a script's member, whatever further ones there are
pub member_kind : (n m : ℕ) → 2 ≤ n → m < 3 → kind_of_member 2 m ≡ kind_of_member n m
member_kind n zero some low = sym (cond-false (nat_lt n 0) kind.Weak kind.Owner (le-ltb n 0 (omega arith)))
member_kind n (suc zero) some low = sym (cond-false (nat_lt n 1) kind.Weak kind.Owner (le-ltb n 1 (omega (arith, some))))
member_kind n (suc (suc zero)) some low = refl
member_kind n (suc (suc (suc m))) some low = let no : ⊥ = omega (arith, low) in absurd no

module _ {V : Type 0} where
  pub held_parts : (d : DeskNow V) (h : Held) → IsHeldByDesk d h → HoldsHandle d (kind_of_held h) (block_of_held h) (place_of_held h)
  held_parts d (Owner h) holds = holds
  held_parts d (Weak w) holds = holds

  -- a cell is open to a desk that has just the handles in the slots
  pub is_open : (d : DeskNow V) (ss : List Slot) (c : CellName) (s : Site) → IsWithinLimits d.shape → FitsSlots d ss → IsInReach d.shape ss c
      → IsCellAtSite d.shape ss c s → IsOpenAt d s (kind_at c)
  is_open d ss (cell.Shared n) s limits fits reach is =
      subst (λ (x : Site). IsOpenAt d x kind.Owner) (sym is.1) (omega arith, few_kind d.shape.shared_cells n is.0)
  is_open d ss (cell.Weak n) s limits fits reach is =
      subst (λ (x : Site). IsOpenAt d x kind.Weak) (sym is.1) (omega arith, past_kind d.shape.shared_cells n)
  is_open d ss (cell.Member k m) s limits fits reach is =
      let owns = is.1 in
      subst (λ (x : Site). IsOpenAt d x (kind_at (cell.Member k m))) (sym is.2) (
        (let owners = limits.members.0 in let weaks = limits.members.1 in let low = reach.1 in omega (arith, owners, weaks, low)),
        member_kind d.shape.owners m limits.members.0 reach.1,
        (
          owns.owner.place,
          subst (λ (b : Option Block). HoldsHandle d kind.Owner b owns.owner.place) owns.into.owns
              (fits_at d ss k.0 (Owner owns.owner) fits owns.at),
        ),
      )
