-- A thread within an act on a cell fits the table after a step.
use Rattle.std.proofs.Common.{◌≡◌, ℕ, [], length, None, Option, sym, refl, ap, ◌∙◌, subst, arith}
use Rattle.step_threads.proofs.Prelude.{AtomicStep, claimed, empty, ending, event_of, filter}
use Rattle.step_threads.proofs.Prelude.{FitsThread, Frame, ghost_after_step, GhostState, HasGoneOn}
use Rattle.step_threads.proofs.Prelude.{holds_quiet, IsNext, kind_of_member, model_state, Nothing}
use Rattle.step_threads.proofs.Prelude.{opening, PendingCall, PendingCallFits, same_stored, State}
use Rattle.step_threads.proofs.Prelude.{Stocks, stored, task_at, Thread}
use Rattle.control_word.specs.declared.model.event.Event.{Event}
use Rattle.control_word.specs.Histories.{leads}
use Rattle.step_table.specs.GhostStates.{event_added}
use Rattle.step_threads.proofs.Threads.{cells_on}
use Rattle.step_threads.proofs.holding.Ends.{each_end, ends_gone}

-- what is half done claims no block
abbrev pub ClaimsNone : PendingCall → Type 0
ClaimsNone h = (b : ℕ) → claimed h b ≡ 0

module _ (d : ℕ) (t : Thread) (v : GhostState) (h h' : PendingCall) (fits : FitsThread d t v) (was : t.pending_call ≡ h) (none : ClaimsNone h)
    (none' : ClaimsNone h') where
  -- the stock is that of the same store
  pub stocks_as : (w : GhostState) → (model_state w).stores ≡ (model_state v).stores → w.extent ≡ v.extent → Stocks d t.stock.blocks t.stock.room h' w
  stocks_as w same e =
      let s = fits.stocks in
      record {
        stocked = λ b.
            let a = s.stocked b in
            let o = ap (λ l. length (filter (same_stored (stored d b)) l)) same in
            let p = ap (λ (q : PendingCall). claimed q b) was ∙ none b in let q = none' b in omega (arith, a, o, p, q);
        roomy = let r = s.roomy in let x = ap (λ z. z.shape.blocks) e in omega (arith, r, x);
      }

  -- nothing was done to the table, and the thread is at the same act
  pub fits_pending_call : PendingCallFits d h' t.frame.registers.slots.items (task_at t.frame).act v → IsNext h' t.frame
      → FitsThread d (record { frame = t.frame; stock = t.stock; pending_call = h' }) v
  fits_pending_call pending_call next =
      record {
        seat = fits.seat;
        holds = fits.holds;
        within = fits.within;
        ready = fits.ready;
        still = fits.still;
        pending_call = pending_call;
        next = next;
        stocks = stocks_as v refl refl;
        endings = fits.endings;
        cells = fits.cells;
      }

  -- a step that is no event was made, and the thread is at the same act
  pub fits_quiet : (x : AtomicStep) → event_of (model_state v) x ≡ None
      → PendingCallFits d h' t.frame.registers.slots.items (task_at t.frame).act (ghost_after_step v d x) → IsNext h' t.frame
      → FitsThread d (record { frame = t.frame; stock = t.stock; pending_call = h' }) (ghost_after_step v d x)
  fits_quiet x quiet pending_call next =
      let w = ghost_after_step v d x in
      let same : model_state w ≡ model_state v = ap (λ (o : Option (Event Nothing)). leads (opening v.extent) (event_added d o v.history)) quiet in
      record {
        seat = fits.seat;
        holds = holds_quiet d d t.frame.registers.slots.items v x quiet fits.holds;
        within = fits.within;
        ready = fits.ready;
        still = fits.still;
        pending_call = pending_call;
        next = next;
        stocks = stocks_as w (ap (λ (s : State). s.stores) same) refl;
        endings =
            record {
              all =
                  record {
                    each = each_end d v w t.frame.endings.list (λ e is. record {
                      ending = subst (λ (s : State). (s.object (s.latest e.block.0)).phase ≡ ending d) (sym same) is.ending;
                      within = is.within;
                      cleared = λ m l. subst (λ (s : State). (s.object (s.latest e.block.0)).member m ≡ empty (kind_of_member 2 m))
                          (sym same) (is.cleared m l);
                    }) fits.endings.all.each;
                    once = fits.endings.all.once;
                  };
              roomy = fits.endings.roomy;
              empty = fits.endings.empty;
            };
        cells = fits.cells;
      }

  -- a step was made that moves no block, and the thread went on
  pub fits_gone : (x : AtomicStep) (c : Frame) → t.frame.endings.list ≡ [] → (model_state (ghost_after_step v d x)).stores ≡ (model_state v).stores
      → HasGoneOn d t.frame c (ghost_after_step v d x) → PendingCallFits d h' c.registers.slots.items (task_at c).act (ghost_after_step v d x) → IsNext h' c
      → FitsThread d (record { frame = c; stock = t.stock; pending_call = h' }) (ghost_after_step v d x)
  fits_gone x c empty stores on pending_call next =
      let w = ghost_after_step v d x in
      record {
        seat = fits.seat;
        holds = on.holds;
        within = on.within;
        ready = on.ready;
        still = on.still;
        pending_call = pending_call;
        next = next;
        stocks = stocks_as w stores refl;
        endings = ends_gone d t.frame c v w fits.endings empty on.endings refl;
        cells = cells_on d t.frame c w on fits.cells;
      }
