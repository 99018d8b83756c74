-- Funds that are turned, put back or given back: steps that are no events.
use Rattle.std.proofs.Common.{◌≡◌, ℕ, ◌==◌, Some, None, refl}
use Rattle.step_core.proofs.Prelude.{Block, cell_bits, CellWord, Checking, cond_both, Failing}
use Rattle.step_core.proofs.Prelude.{FrameView, ghost_after, GhostState, is_drained, is_low, Kind}
use Rattle.step_core.proofs.Prelude.{Lacking, OnCell, PendingCall, Refill, Refilling, refills_on}
use Rattle.step_core.proofs.Prelude.{Rest, returned, returns, seen, Site, Stage, Step, Turning}
use Rattle.step_core.proofs.Prelude.{within, word_of_cell}
use Rattle.step_table.specs.declared.cell_steps.cell_step.CellStep.TheVariants as cell_step

-- a step on the way of funds, which the thread makes where it is
pub record Pays (d : ℕ) (v : GhostState) (w : FrameView) (x : Step) : Type 0 where
  pub frame_view : x.frame_view ≡ w
  pub history : (ghost_after v d x.atomic_step).history ≡ v.history
  pub extent : (ghost_after v d x.atomic_step).extent ≡ v.extent
  pub pending_call : returned x.pending_call ≡ Rest

pub returns_so : (d : ℕ) (v : GhostState) (w : FrameView) (kind : Kind) (b : Block) (f k : ℕ) → Pays d v w (returns w kind b f k)
returns_so d v w kind b f k = record { frame_view = refl; history = refl; extent = refl; pending_call = refl }

pub refills_so : (d : ℕ) (v : GhostState) (w : FrameView) (stage : Stage) (c : Site) (x : CellWord) (k : ℕ) (b : Block)
    → Pays d v w (refills_on v w stage c x k b)
refills_so d v w Turning c x k b =
    record {
      frame_view = refl;
      history = refl;
      extent = refl;
      pending_call = cond_both (is_low x) (Refill Checking c x k) Rest (λ (h : PendingCall). returned h ≡ Rest) (λ t. refl) (λ t. refl);
    }
refills_so d v w Checking c x k b =
    let y = seen v c in
    record {
      frame_view = refl;
      history = refl;
      extent = refl;
      pending_call = cond_both (is_drained x y) (Refill Lacking c y k) Rest (λ (h : PendingCall). returned h ≡ Rest) (λ t. refl) (λ t. refl);
    }
refills_so d v w Lacking c x k b = record { frame_view = refl; history = refl; extent = refl; pending_call = refl }
refills_so d v w Refilling c x k b =
    cond_both (word_of_cell v c == cell_bits x) (within w k (Some (OnCell (cell_step.Refill c x.taken))) Rest) (within w k None (Refill Failing c x k))
    (Pays d v w) (λ t. record { frame_view = refl; history = refl; extent = refl; pending_call = refl })
    (λ t. record { frame_view = refl; history = refl; extent = refl; pending_call = refl })
refills_so d v w Failing c x k b = record { frame_view = refl; history = refl; extent = refl; pending_call = refl }
