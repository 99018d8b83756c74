-- What a thread relies on that is at a compare.
use Rattle.std.proofs.Common.{◌≡◌, ℕ, ◌-◌, ◌<◌, Bool, true, false, not, ◌&&◌, ◌⊎◌, List, length}
use Rattle.std.proofs.Common.{set, sym, refl, ap, ◌∙◌, subst, inl, inr, ⊎_elim, arith, length-set}
use Rattle.std.proofs.Common.{get_or-set_same}
use Rattle.step_threads.proofs.Prelude
use Prelude.{Act, CanCompare, cell_of_name, CellName, Compare, comparing, dropping, DropsInTime}
use Prelude.{Frame, FrameReady, FrameStill, GhostState, hand, HasCell, idle, is_of, is_there, IsIn}
use Prelude.{IsReady, kind_at, kind_in_state, MayComeNext, MayFollow, model_state, other, plain}
use Prelude.{pointer_of, rest, Slot, slot_value, slots_swapped, taken_after, Task, task_at}
use Prelude.{TasksMayCome}
use Rattle.step_threads.proofs.CellNames.{goes_in}
use Rattle.step_threads.proofs.Frames.{ready_any, ready_head, todo_at}

four : (a b c d : Bool) → not (a && b && c && d) ≡ false → (b ≡ true) × (c ≡ true) × (d ≡ true)
four true true true true e = (refl, refl, refl)
four true true true false e = cc
four true true false d e = cc
four true false c d e = cc
four false b c d e = cc

module _ (c : Frame) (k : ℕ) (x : CellName) (weak : Bool) (lt : c.at < length c.tasks.items) (ready : FrameReady c)
    (act : (task_at c).act ≡ Compare k x weak) where
  -- what is expected is a name's
  pub expects_name : k < other c.registers.slots.items
  expects_name =
      let n = other c.registers.slots.items in
      let b : MayComeNext n c.taken (Compare k x weak) = subst (MayComeNext n c.taken) act (ready_head c lt ready).0 in b.0

  -- what comes out is dropped
  pub drops_after : DropsInTime (rest c)
  drops_after = let f : MayFollow (Compare k x weak) (rest c) = subst (λ (a : Act). MayFollow a (rest c)) act (ready_head c lt ready).1 in f

  -- nothing is to be dropped yet
  pub nothing_owed : slot_value c.registers.slots.items (other c.registers.slots.items) ≡ plain
  nothing_owed =
      let slots = c.registers.slots.items in
      let P = λ (ts : List Task). (slot_value slots (other slots) ≡ plain) ⊎ DropsInTime ts in
      ⊎_elim (λ (e : slot_value slots (other slots) ≡ plain). e)
      (λ (q : dropping (DropsInTime (rest c)) (task_at c).act). let z : dropping (DropsInTime (rest c)) (Compare k x weak) = subst
      (dropping (DropsInTime (rest c))) act q in absurd z)
      (subst P (todo_at c lt) ready.owes)

  -- the cell is there, and what goes in, and what is expected, may be in it
  pub may_compare : FrameStill c
      → (is_there c.registers.slots.items x ≡ true) × (is_of (kind_at x) (slot_value c.registers.slots.items (hand c.registers.slots.items)) ≡ true)
      × (is_of (kind_at x) (slot_value c.registers.slots.items k) ≡ true)
  may_compare still = four c.taken _ _ _ (subst (λ (a : Act). idle a c.registers.slots.items c.taken ≡ false) act (still lt))

  pub can_compare : (v : GhostState) → FrameStill c → HasCell v.extent.shape (task_at c).act
      → CanCompare (kind_in_state (model_state v) (cell_of_name (model_state v) c.registers.slots.items x)) c.registers.slots.items
      (comparing c.registers.slots.items k weak)
  can_compare v still cell =
      let slots = c.registers.slots.items in
      let inside : IsIn v.extent.shape x = subst (HasCell v.extent.shape) act cell in
      let some = ready.some in
      let name = expects_name in
      let may = may_compare still in
      record {
        expected = omega (arith, name);
        new = omega (arith, some);
        other = omega (arith, some);
        apart = omega (arith, some);
        empty = ap pointer_of nothing_owed;
        kinds = (goes_in v slots x (slot_value slots k) inside may.2, goes_in v slots x (slot_value slots (hand slots)) inside may.1);
      }

  -- the cell is swapped: what comes out is to be dropped
  pub swapped_ready : (y : Slot)
      → IsReady (slots_swapped (hand c.registers.slots.items) (other c.registers.slots.items) c.registers.slots.items y) false c.endings.list (rest c)
  swapped_ready y =
      let slots = c.registers.slots.items in
      let n = other slots in
      let l = slots_swapped (hand slots) n slots y in
      let e : length l ≡ length slots = length-set (set slots n y) (hand slots) plain ∙ length-set slots n y in
      let m = length-set slots n y in
      let some = ready.some in
      let r : TasksMayCome n true (rest c) = subst (λ (a : Act). TasksMayCome n (taken_after a c.taken) (rest c)) act (ready_head c lt ready).2 in
      record {
        some = omega (arith, e, some);
        free = λ t.
            inl (ap (λ (i : ℕ). slot_value l (i - 1)) e ∙ get_or-set_same (set slots n y) (hand slots) plain plain (omega (arith, m, some)));
        owes = inr drops_after;
        ready = subst (λ (i : ℕ). TasksMayCome (i - 2) false (rest c)) (sym e) (ready_any n (rest c) r);
      }
