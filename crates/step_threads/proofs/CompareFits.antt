-- A thread that compares a cell fits the table.
use Rattle.std.proofs.Common.{◌≡◌, ℕ, ◌-◌, ◌<◌, Bool, true, false, ◌⊎◌, [], length, Some, sym}
use Rattle.std.proofs.Common.{refl, ap, ◌∙◌, subst, ⊎_elim}
use Rattle.step_threads.proofs.Prelude
use Prelude.{Act, as_word, begins_refill, Bring, cell_of_name, CellName, CellWord, Compare}
use Prelude.{Compared, CompareSwap, Empty, FitsThread, Frame, Full, ghost_after_step, GhostState}
use Prelude.{gives_back, hand, Handle, HasCell, HasGoneOn, is_full, IsIn, IsLoaded, IsSeenBy, Kind}
use Prelude.{kind_in_state, kind_stays, Matched, missed, model_state, more_taken, new_of, OnCell}
use Prelude.{owes_after, owing_for, owing_funds, pending, PendingCall, pointer_of, Refill, Rest}
use Prelude.{same_value, Saw, Slot, slot_pointer, slot_value, TableInvariant, Take, task_at}
use Prelude.{Thread, Turning}
use Rattle.step_threads.specs.declared.programs.call.CellName.TheVariants as name
use Rattle.step_threads.specs.Threads.{IsMatchedBy}
use Rattle.step_threads.proofs.CellNames.{cell_open}
use Rattle.step_threads.proofs.Compares.{may_compare}
use Rattle.step_threads.proofs.LoadFits.{owned_some, saw_next}
use Rattle.step_threads.proofs.LookFits.{ClaimsNone, fits_gone, fits_pending_call, fits_quiet}
use Rattle.step_threads.proofs.RefillFits.{At}
use Rattle.step_threads.proofs.StoreFits.{claims_none, pending_call_back, pending_call_here}
use Rattle.step_threads.proofs.StoreFits.{next_back}
use Rattle.step_threads.proofs.Threads.{cell_here}

-- what was brought for a value is to be given back
fits_missed : (d : ℕ) (t : Thread) (v : GhostState) (h : PendingCall) (n : ℕ) (x : Slot) → FitsThread d t v → t.pending_call ≡ h → ClaimsNone h
    → pending v d ≡ owing_for (model_state v) x 256 → FitsThread d (At t (missed n (pointer_of x))) v
fits_missed d t v h n (Empty p) fits e claims owes = fits_pending_call d t v h Rest fits e claims (λ b. refl) owes tt
fits_missed d t v h n (Full x) fits e claims owes =
    fits_pending_call d t v h (missed n (Some x)) fits e claims (λ b. refl) (x.place, owes) tt

-- a thread that has seen a cell, or has brought funds besides, claims no block
pub looking_claims : (t : Thread) (x : CellWord) → (t.pending_call ≡ Saw x) ⊎ (t.pending_call ≡ Matched x) → ClaimsNone t.pending_call
looking_claims t x e =
    ⊎_elim (λ (q : t.pending_call ≡ Saw x). subst ClaimsNone (sym q) (λ b. refl)) (λ (q : t.pending_call ≡ Matched x). subst ClaimsNone (sym q) (λ b. refl)) e

module _ (d : ℕ) (t : Thread) (v : GhostState) (k : ℕ) (c : CellName) (weak : Bool) (x : CellWord) (fits : FitsThread d t v)
    (act : (task_at t.frame).act ≡ Compare k c weak) where
  -- the shape has its cell
  pub cell_of_compare : t.frame.at < length t.frame.tasks.items → IsIn v.extent.shape c
  cell_of_compare lt = subst (λ (a : Act). HasCell v.extent.shape a) act (cell_here t.frame v lt fits.cells)

  -- what it has seen
  pub saw_compares : t.pending_call ≡ Saw x → (same_value x (as_word (slot_value t.frame.registers.slots.items k)) ≡ true) ⊎ IsLoaded x
  saw_compares e = subst (λ (a : Act). IsSeenBy t.frame.registers.slots.items x a) act (saw_next d t v x fits e).1

  -- where that isn't what is expected, it can be loaded
  pub saw_other : t.pending_call ≡ Saw x → same_value x (as_word (slot_value t.frame.registers.slots.items k)) ≡ false → IsLoaded x
  saw_other e differs =
      ⊎_elim (λ (q : same_value x (as_word (slot_value t.frame.registers.slots.items k)) ≡ true). absurd cc) (λ (q : IsLoaded x). q) (saw_compares e)

  module _ (c' : Frame) (y : Compared) (kept : TableInvariant v) where
    -- one with an object was, and a fund of it is taken
    pub compare_taken : (n : ℕ) → t.pending_call ≡ Saw x → IsLoaded x
        → HasGoneOn d t.frame c' (ghost_after_step v d (OnCell (Take (cell_of_name (model_state v) t.frame.registers.slots.items c) x (Some y))))
        → FitsThread d (record {
          frame = c';
          stock = t.stock;
          pending_call =
              Refill Turning (cell_of_name (model_state v) t.frame.registers.slots.items c) (more_taken x) n;
        })
        (ghost_after_step v d (OnCell (Take (cell_of_name (model_state v) t.frame.registers.slots.items c) x (Some y))))
    compare_taken n e loaded on =
        let at = cell_of_name (model_state v) t.frame.registers.slots.items c in
        let next = saw_next d t v x fits e in
        let b = owned_some x.owned loaded.0 in
        let valid = (pending_call_here d t v (Saw x) fits e).1 in
        fits_gone d t v (Saw x) (Refill Turning at (more_taken x) n) fits e (λ b. refl) (λ b. refl) (OnCell (Take at x (Some y))) c' next.2 refl on
        (begins_refill d v kept fits.seat at x (Some y) b.0 (cell_open v d t.frame.registers.slots.items c (cell_of_compare next.0) fits.holds
        (may_compare t.frame k c weak next.0 fits.ready act fits.still).0) valid b.1 loaded.1) tt

    -- the cell is swapped
    pub compare_swapped : (n : ℕ) → ClaimsNone t.pending_call → t.frame.endings.list ≡ []
        → HasGoneOn d t.frame c' (ghost_after_step v d (OnCell (CompareSwap (cell_of_name (model_state v) t.frame.registers.slots.items c) x y)))
        → FitsThread d
        (record {
          frame = c';
          stock = t.stock;
          pending_call =
              gives_back (kind_in_state (model_state v) (cell_of_name (model_state v) t.frame.registers.slots.items c)) n x x.owned;
        })
        (ghost_after_step v d (OnCell (CompareSwap (cell_of_name (model_state v) t.frame.registers.slots.items c) x y)))
    compare_swapped n claims none on =
        let at = cell_of_name (model_state v) t.frame.registers.slots.items c in
        let z = OnCell (CompareSwap at x y) in
        let w = ghost_after_step v d z in
        let kind = kind_in_state (model_state v) at in
        let owes : pending w d ≡ owing_funds (model_state w) kind x.owned x.place (256 - x.taken) 0 =
        owes_after v d (CompareSwap at x y) kept fits.seat ∙ ap (λ (q : Kind). owing_funds (model_state w) q x.owned x.place (256 - x.taken) 0)
        (kind_stays v w at refl) in
        fits_gone d t v t.pending_call (gives_back kind n x x.owned) fits refl claims (claims_none kind n x x.owned) z c' none (same_stores c) on
        (pending_call_back d c'.registers.slots.items (task_at c').act w kind n x x.owned refl owes) (next_back kind n x x.owned c')
      where
        same_stores : (c : CellName)
            → (model_state (ghost_after_step v d (OnCell (CompareSwap (cell_of_name (model_state v) t.frame.registers.slots.items c) x y)))).stores
            ≡ (model_state v).stores
        same_stores (name.Shared m) = refl
        same_stores (name.Weak m) = refl
        same_stores (name.Member i m) = refl

  -- the funds are brought
  pub compare_brought : (p : Handle) → t.pending_call ≡ Saw x → same_value x (as_word (slot_value t.frame.registers.slots.items k)) ≡ true
      → slot_pointer t.frame.registers.slots.items (hand t.frame.registers.slots.items) ≡ Some p
      → let w = ghost_after_step v d (OnCell (Bring p.kind p.block p.place 256)) in
      pending w d ≡ owing_for (model_state w) (slot_value t.frame.registers.slots.items (hand t.frame.registers.slots.items)) 256
      → FitsThread d (At t (Matched x)) w
  compare_brought p e same at owes =
      let z = OnCell (Bring p.kind p.block p.place 256) in
      let w = ghost_after_step v d z in
      let slots = t.frame.registers.slots.items in
      let next = saw_next d t v x fits e in
      let valid = (pending_call_here d t v (Saw x) fits e).1 in
      let matched : IsMatchedBy slots x (task_at t.frame).act = subst (λ (a : Act). IsMatchedBy slots x a) (sym act) same in
      fits_quiet d t v (Saw x) (Matched x) fits e (λ b. refl) (λ b. refl) z refl
      (owes ∙ ap (λ (a : Act). owing_for (model_state w) (new_of slots a) 256) (sym act), valid)
      (next.0, matched, next.2, ap (λ (a : Act). is_full (pointer_of (new_of slots a))) act ∙ ap is_full at)

  -- the cell shows something else by then
  pub compare_missed : (n : ℕ) → ClaimsNone t.pending_call
      → pending v d ≡ owing_for (model_state v) (slot_value t.frame.registers.slots.items (hand t.frame.registers.slots.items)) 256
      → FitsThread d (At t (missed n (slot_pointer t.frame.registers.slots.items (hand t.frame.registers.slots.items)))) v
  compare_missed n claims owes =
      let slots = t.frame.registers.slots.items in fits_missed d t v t.pending_call n (slot_value slots (hand slots)) fits refl claims owes
