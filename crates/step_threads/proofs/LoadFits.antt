-- A thread that loads what a cell holds fits the table.
use Rattle.std.proofs.Common.{◌≡◌, ℕ, ◌<◌, true, ◌≢◌, length, Some, None, Option, refl, subst}
use Rattle.step_threads.proofs.Prelude.{Act, begins_refill, Block, cell_of_name, CellName}
use Rattle.step_threads.proofs.Prelude.{CellWord, FitsThread, Frame, ghost_after_step, GhostState}
use Rattle.step_threads.proofs.Prelude.{HasCell, HasGoneOn, is_there, IsIn, IsLoaded, IsNext}
use Rattle.step_threads.proofs.Prelude.{IsSeenBy, Load, model_state, more_taken, OnCell, Refill}
use Rattle.step_threads.proofs.Prelude.{Saw, TableInvariant, Take, task_at, Thread, Turning}
use Rattle.step_threads.proofs.CellNames.{cell_open}
use Rattle.step_threads.proofs.LookFits.{fits_gone}
use Rattle.step_threads.proofs.StoreFits.{pending_call_here}
use Rattle.step_threads.proofs.Threads.{cell_here}

-- what was seen has an object, and not all of its funds were taken
pub owned_some : (o : Option Block) → o ≢ None → (b : Block) × (o ≡ Some b)
owned_some None n = absurd (n refl)
owned_some (Some b) n = (b, refl)

pub cell_of_load : (d : ℕ) (t : Thread) (v : GhostState) (c : CellName) → FitsThread d t v → t.frame.at < length t.frame.tasks.items
    → (task_at t.frame).act ≡ Load c
    → IsIn v.extent.shape c
cell_of_load d t v c fits lt act = subst (λ (a : Act). HasCell v.extent.shape a) act (cell_here t.frame v lt fits.cells)

-- what a thread is at that has seen a cell
pub saw_next : (d : ℕ) (t : Thread) (v : GhostState) (x : CellWord) → FitsThread d t v → t.pending_call ≡ Saw x → IsNext (Saw x) t.frame
saw_next d t v x fits e = subst (λ h. IsNext h t.frame) e fits.next

pub saw_load : (d : ℕ) (t : Thread) (v : GhostState) (c : CellName) (x : CellWord) → FitsThread d t v → t.pending_call ≡ Saw x → (task_at t.frame).act ≡ Load c
    → IsSeenBy t.frame.registers.slots.items x (Load c)
saw_load d t v c x fits e act = subst (λ (a : Act). IsSeenBy t.frame.registers.slots.items x a) act (saw_next d t v x fits e).1

pub saw_there : (d : ℕ) (t : Thread) (v : GhostState) (c : CellName) (x : CellWord) → FitsThread d t v → t.pending_call ≡ Saw x → (task_at t.frame).act ≡ Load c
    → is_there t.frame.registers.slots.items c ≡ true
saw_there d t v c x fits e act = (saw_load d t v c x fits e act).0

module _ (d : ℕ) (t : Thread) (v : GhostState) (c : CellName) (x : CellWord) (fits : FitsThread d t v) where
  -- a fund is taken
  pub fits_taken : (c' : Frame) (k : ℕ) → TableInvariant v → t.pending_call ≡ Saw x → (task_at t.frame).act ≡ Load c
      → HasGoneOn d t.frame c' (ghost_after_step v d (OnCell (Take (cell_of_name (model_state v) t.frame.registers.slots.items c) x None)))
      → FitsThread d (record {
        frame = c';
        stock = t.stock;
        pending_call =
            Refill Turning (cell_of_name (model_state v) t.frame.registers.slots.items c) (more_taken x) k;
      })
      (ghost_after_step v d (OnCell (Take (cell_of_name (model_state v) t.frame.registers.slots.items c) x None)))
  fits_taken c' k kept e act on =
      let at = cell_of_name (model_state v) t.frame.registers.slots.items c in
      let next = saw_next d t v x fits e in
      let saw = saw_load d t v c x fits e act in
      let loaded : IsLoaded x = saw.1 in
      let b = owned_some x.owned loaded.0 in
      let valid = (pending_call_here d t v (Saw x) fits e).1 in
      fits_gone d t v (Saw x) (Refill Turning at (more_taken x) k) fits e (λ b. refl) (λ b. refl) (OnCell (Take at x None)) c' next.2 refl on
      (begins_refill d v kept fits.seat at x None b.0
      (cell_open v d t.frame.registers.slots.items c (cell_of_load d t v c fits next.0 act) fits.holds saw.0) valid b.1 loaded.1) tt
