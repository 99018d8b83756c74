-- What the steps of threads are that look at cells, and of those that took a fund of one.
use Rattle.std.proofs.Common.{◌≡◌, ℕ, true, List, ◌==◌, Some, None, Option, option_map, ap, ◌∙◌}
use Rattle.step_threads.proofs.Prelude.{Act, Block, cell_bits, CellWord, Compared, cond-true}
use Rattle.step_threads.proofs.Prelude.{frame_view, FrameView, ghost_after, GhostState, HasStepped}
use Rattle.step_threads.proofs.Prelude.{more_taken, OnCell, PendingCall, Refill, Rest, Site, Stage}
use Rattle.step_threads.proofs.Prelude.{step_at, step_of_act, Stepped, stepped, Take, takes, Task}
use Rattle.step_threads.proofs.Prelude.{Thread, Turning, waits, within, word_of_cell}
use Rattle.step_threads.specs.Steps.{refills_on}
use Rattle.step_threads.proofs.Steps.{stepped_as}

-- the next step of a thread that took a fund of a cell
pub refilled : (d : ℕ) (t : Thread) (v : GhostState) (stage : Stage) (c : Site) (x : CellWord) (k : ℕ) (b : Block) (r : Stepped) (t' : Thread) (v' : GhostState)
    → t.pending_call ≡ Refill stage c x k → x.owned ≡ Some b
    → let y = refills_on v (frame_view t.frame) stage c x k b in
    r ≡ stepped v (Some y) → v' ≡ ghost_after v d y.atomic_step → frame_view t'.frame ≡ y.frame_view → t'.pending_call ≡ y.pending_call → HasStepped d t v r t'
    v'
refilled d t v stage c x k b r t' v' pending_call owned =
    let w = frame_view t.frame in
    stepped_as d t v (refills_on v w stage c x k b) r t' v' (ap (λ (h : PendingCall). waits v h w) pending_call)
    (ap (λ (h : PendingCall). step_at v d h w) pending_call ∙ ap (λ (o : Option Block). option_map (refills_on v w stage c x k) o) owned)

module _ (v : GhostState) (d : ℕ) (w : FrameView) (k : ℕ) (ts : List Task) (a : Act) (c : Site) (y : Option Compared) (x : CellWord) where
  -- what a fund is taken of shows the same still, or not
  pub takes_it : (word_of_cell v c == cell_bits x) ≡ true
      → takes v d w k ts a c y x ≡ step_of_act v d w k ts a (Some (OnCell (Take c x y))) (Refill Turning c (more_taken x) k)
  takes_it same = cond-true (word_of_cell v c == cell_bits x) (step_of_act v d w k ts a (Some (OnCell (Take c x y))) (Refill Turning c (more_taken x) k))
      (within w k None Rest) same
