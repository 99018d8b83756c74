-- The cells of names are there, and of their kinds.
use Rattle.std.proofs.Common.{◌≡◌, ℕ, ◌+◌, ◌≤◌, true, length, nat_lt, Some, None, Option, sym}
use Rattle.std.proofs.Common.{refl, ap, subst, arith, le-ltb, lt-ltb}
use Rattle.step_threads.proofs.Prelude.{Block, cell_of_name, CellName, cond-false, cond-true}
use Rattle.step_threads.proofs.Prelude.{GhostState, Handle, Has, held, HoldsBag, inside}
use Rattle.step_threads.proofs.Prelude.{inside_held, is_full, is_of, is_there, IsIn, IsNamed}
use Rattle.step_threads.proofs.Prelude.{IsOpenTo, Kind, kind_at, kind_in_state, model_state, on}
use Rattle.step_threads.proofs.Prelude.{opening, other, Owner, Slot, slot_pointer, Slots, Weak}
use Rattle.control_word.proofs.history.Kept.{cells_led}
use Rattle.step_table.specs.GhostStates.{handle_in_block, owner_in}
use Rattle.step_table.proofs.contained.Told.{shared_is}
use Rattle.step_table.proofs.holding.Inside.{inside_is}
use Rattle.step_table.proofs.tables.Members.{member_kind, three_members}
use Rattle.step_threads.specs.declared.programs.call.CellName.TheVariants as cell
use Rattle.step_threads.specs.declared.programs.call.Name.{Name}
use Rattle.step_threads.specs.Frames.{block_at}

pub cell_kind : (v : GhostState) (slots : Slots) (c : CellName) → IsIn v.extent.shape c
    → kind_in_state (model_state v) (cell_of_name (model_state v) slots c) ≡ kind_at c
cell_kind v slots (cell.Shared n) lt =
    cond-true (nat_lt n (model_state v).shared) Owner Weak (lt-ltb _ _ (let e = shared_is v in omega (arith, e, lt)))
cell_kind v slots (cell.Weak n) lt = cond-false (nat_lt ((model_state v).shared + n) (model_state v).shared) Owner Weak (le-ltb _ _ (omega arith))
cell_kind v slots (cell.Member k m) lt = member_kind v m

-- a name that owns an object and points into it
pub there_inside : (slots : Slots) (k : Name) (m : ℕ) → is_there slots (cell.Member k m) ≡ true
    → (p : Handle) × (inside (slot_pointer slots k.0) ≡ Some p) × (block_at slots k.0 ≡ p.block)
there_inside slots k m is = go (inside (slot_pointer slots k.0)) refl is
  where
    go : (o : Option Handle) → inside (slot_pointer slots k.0) ≡ o → is_full o ≡ true
        → (p : Handle) × (inside (slot_pointer slots k.0) ≡ Some p) × (block_at slots k.0 ≡ p.block)
    go None e t = cc
    go (Some p) e t = (p, e, ap (λ (o : Option Handle). on (λ (x : Handle). x.block) (record { 0 = 0 }) o) e)

module _ (v : GhostState) (d : ℕ) (slots : Slots) (k : Name) (m : ℕ) (holds : HoldsBag d slots v) (is : is_there slots (cell.Member k m) ≡ true) where
  -- has an owner of the object in that block
  there_owned : (p : Handle) × Has (held d (owner_in v (block_at slots k.0) p.place)) (model_state v).hands
  there_owned =
      let t = there_inside slots k m is in
      let p = t.0 in
      let kind = (inside_is (slot_pointer slots k.0) p t.1).1.kind in (
        p,
        subst (λ (b : Block). Has (held d (owner_in v b p.place)) (model_state v).hands) (sym t.2)
            (subst (λ (q : Kind). Has (held d (handle_in_block v q p.block p.place)) (model_state v).hands) kind (inside_held d slots v k.0 p holds t.1)),
      )

pub cell_open : (v : GhostState) (d : ℕ) (slots : Slots) (c : CellName) → IsIn v.extent.shape c → HoldsBag d slots v → is_there slots c ≡ true
    → IsOpenTo v d (cell_of_name (model_state v) slots c)
cell_open v d slots (cell.Shared n) lt holds is = let e = cells_led (opening v.extent) v.history in omega (arith, e, lt)
cell_open v d slots (cell.Weak n) lt holds is =
    let e = cells_led (opening v.extent) v.history in let s = shared_is v in omega (arith, e, s, lt)
cell_open v d slots (cell.Member k m) lt holds is =
    let o = there_owned v d slots k m holds is in
    ((let n = (three_members v).0 in omega (arith, lt, n)), (owner_in v (block_at slots k.0) o.0.place, (o.1, refl, refl), refl))

-- what may go into the cell of a name may go into the cell
pub goes_in : (v : GhostState) (slots : Slots) (c : CellName) (x : Slot) → IsIn v.extent.shape c → is_of (kind_at c) x ≡ true
    → is_of (kind_in_state (model_state v) (cell_of_name (model_state v) slots c)) x ≡ true
goes_in v slots c x lt e = subst (λ (k : Kind). is_of k x ≡ true) (sym (cell_kind v slots c lt)) e

-- a cell of fewer names is one of more
pub named_more : (m n : ℕ) (c : CellName) → m ≤ n → IsNamed m c → IsNamed n c
named_more m n (cell.Shared i) le is = tt
named_more m n (cell.Weak i) le is = tt
named_more m n (cell.Member k j) le is = omega (arith, le, is)

pub cell_named : (slots : Slots) (c : CellName) → IsNamed (other slots) c → IsNamed (length slots) c
cell_named slots c is = named_more (other slots) (length slots) c (omega arith) is
