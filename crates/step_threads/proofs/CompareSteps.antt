-- What the steps of a thread are that compares a cell.
use Rattle.std.proofs.Common.{◌≡◌, ℕ, ◌<◌, Bool, true, false, List, length, is_some, ◌==◌, Some}
use Rattle.std.proofs.Common.{None, Option, sym, refl, ap, ◌∙◌}
use Rattle.step_threads.proofs.Prelude
use Prelude.{Act, as_word, AtomicStep, came, cell_bits, cell_of_name, CellName, CellWord, Compare}
use Prelude.{Compared, compared_in, CompareSwap, comparing, cond-false, cond-true, Event, event_of}
use Prelude.{fetches, frame_settled, frame_view, FrameView, ghost_after_step, GhostState}
use Prelude.{gives_back, hand, Handle, HasStepped, HoldsBag, is_expected, is_of, is_there}
use Prelude.{IsCellWord, IsIn, kind_at, kind_in_state, Matched, matches, missed, model_state}
use Prelude.{more_taken, on, OnCell, PendingCall, Quiet, Refill, rest, Said, same_value, Saw, seen}
use Prelude.{shows_seen, silent, Site, slot_pointer, slot_value, Slots, Step, step_at, step_of_act}
use Prelude.{Stepped, TableInvariant, Take, takes, Task, task_at, Thread, Turning, waits, within}
use Prelude.{word_of_cell}
use Rattle.step_threads.specs.declared.said.Answer.TheVariants.{Compared as Answered}
use Rattle.step_threads.specs.Rows.{compared}
use Rattle.step_threads.specs.NextSteps.{matched, matched_on, saw, saw_on}
use Rattle.step_threads.specs.Steps.{settles}
use Rattle.step_threads.proofs.CellNames.{cell_open, goes_in}
use Rattle.step_threads.proofs.Frames.{todo_at}
use Rattle.step_threads.proofs.LookSteps.{takes_it}
use Rattle.step_threads.proofs.Steps.{stepped_as}
use Rattle.step_table.proofs.contained.Coming.{open_found, seen_found}
use Rattle.step_table.proofs.contained.Told.{alike_seen}

-- what a compare says that is done
abbrev pub answers : ℕ → Bool → Said
answers n b = record { statement = n; answer = Some (Answered b); ended = None }

-- where a thread is by a compare
abbrev pub compared_frame : Thread → GhostState → CellName → Bool → FrameView
compared_frame t v c b =
    let x = compared t.frame.registers.slots.items (came (model_state v) t.frame.registers.slots.items c) b in
    frame_settled x.0 x.1 t.frame.endings.list (rest t.frame)

-- words tell whether a cell holds what is expected
pub expected_told : (d : ℕ) (slots : Slots) (v : GhostState) (k : ℕ) (c : CellName) → TableInvariant v → d < v.extent.actors → HoldsBag d slots v
    → IsIn v.extent.shape c
    → is_there slots c ≡ true → is_of (kind_at c) (slot_value slots k) ≡ true
    → same_value (seen v (cell_of_name (model_state v) slots c)) (as_word (slot_value slots k)) ≡ is_expected (model_state v) slots k c
expected_told d slots v k c kept lt holds inside there is =
    let at = cell_of_name (model_state v) slots c in
    alike_seen d slots v k kept holds at (seen v at) (seen_found v d at kept lt (cell_open v d slots c inside holds there))
    (goes_in v slots c (slot_value slots k) inside is)

-- what a cell shows still is what it holds
pub shown_still : (d : ℕ) (slots : Slots) (v : GhostState) (c : CellName) (x : CellWord) → TableInvariant v → d < v.extent.actors → HoldsBag d slots v
    → IsIn v.extent.shape c → is_there slots c ≡ true → IsCellWord x → word_of_cell v (cell_of_name (model_state v) slots c) ≡ cell_bits x
    → x ≡ seen v (cell_of_name (model_state v) slots c)
shown_still d slots v c x kept lt holds inside there valid bits =
    let at = cell_of_name (model_state v) slots c in
    shows_seen v d at x (open_found v d at x kept lt (cell_open v d slots c inside holds there) valid bits)

module _ (d : ℕ) (t : Thread) (v : GhostState) (k : ℕ) (c : CellName) (weak : Bool) (x : CellWord) (lt : t.frame.at < length t.frame.tasks.items)
    (act : (task_at t.frame).act ≡ Compare k c weak) where
  abbrev slots : Slots
  slots = t.frame.registers.slots.items

  abbrev place : Site
  place = cell_of_name (model_state v) slots c

  abbrev wanted : Compared
  wanted = compared_in slots (comparing slots k weak)

  abbrev number : ℕ
  number = (task_at t.frame).statement

  -- a compare that is done, by an event that tells it
  done : (b : Bool) (y : AtomicStep) (h : PendingCall) (r : Stepped) (t' : Thread) (v' : GhostState) → waits v t.pending_call (frame_view t.frame) ≡ false
      → is_some (event_of (model_state v) y) ≡ true
      → step_at v d t.pending_call (frame_view t.frame) ≡ Some (step_of_act v d (frame_view t.frame) number (rest t.frame) (Compare k c weak) (Some y) h)
      → is_expected (model_state v) slots k c ≡ b → r ≡ Event (answers number b) → v' ≡ ghost_after_step v d y
      → frame_view t'.frame ≡ compared_frame t v c b → t'.pending_call ≡ h
      → HasStepped d t v r t' v'
  done b y h r t' v' goes event is tells answer ghost_state walked pending_call =
      let w = frame_view t.frame in
      stepped_as d t v (step_of_act v d w number (rest t.frame) (Compare k c weak) (Some y) h) r t' v' goes is
      (answer ∙ ap (λ (q : Bool). Event (answers number q)) (sym tells)
      ∙ sym (cond-true (is_some (event_of (model_state v) y)) (Event (answers number (is_expected (model_state v) slots k c)))
      (Quiet (answers number (is_expected (model_state v) slots k c))) event))
      ghost_state (walked ∙ ap (λ (q : Bool). compared_frame t v c q) (sym tells)) pending_call

  -- the next step of a compare that has seen its cell
  module _ (saws : t.pending_call ≡ Saw x) where
    seen_on : step_at v d t.pending_call (frame_view t.frame) ≡ Some (settles v d (frame_view t.frame) number (rest t.frame) (Compare k c weak) place wanted x)
    seen_on =
        let w = frame_view t.frame in
        ap (λ (h : PendingCall). step_at v d h w) saws ∙ ap (λ (ts : List Task). saw v d w x ts) (todo_at t.frame lt)
        ∙ ap (λ (a : Act). saw_on v d w number (rest t.frame) x a) act

    still_on : waits v t.pending_call (frame_view t.frame) ≡ false
    still_on = let w = frame_view t.frame in ap (λ (h : PendingCall). waits v h w) saws

    module _ (differs : same_value x (as_word (slot_value slots k)) ≡ false) where
      takes_on : step_at v d t.pending_call (frame_view t.frame) ≡ Some
          (takes v d (frame_view t.frame) number (rest t.frame) (Compare k c weak) place (Some wanted) x)
      takes_on =
          let w = frame_view t.frame in
          let ts = rest t.frame in
          let a = Compare k c weak in
          seen_on ∙ ap (λ (s : Step). Some s) (cond-false (same_value x wanted.expected)
          (on (fetches w number x) (matches v d w number ts a place wanted x) (slot_pointer slots (hand slots)))
          (takes v d w number ts a place (Some wanted) x) differs)

      -- a fund is taken
      pub differs_taken : (r : Stepped) (t' : Thread) (v' : GhostState) → (word_of_cell v place == cell_bits x) ≡ true
          → is_expected (model_state v) slots k c ≡ false
          → r ≡ Event (answers number false) → v' ≡ ghost_after_step v d (OnCell (Take place x (Some wanted)))
          → frame_view t'.frame ≡ compared_frame t v c false
          → t'.pending_call ≡ Refill Turning place (more_taken x) number → HasStepped d t v r t' v'
      differs_taken r t' v' same tells answer ghost_state walked pending_call =
          done false (OnCell (Take place x (Some wanted))) (Refill Turning place (more_taken x) number) r t' v' still_on refl
          (takes_on ∙ ap (λ (s : Step). Some s) (takes_it v d (frame_view t.frame) number (rest t.frame) (Compare k c weak) place (Some wanted) x same))
          tells answer ghost_state walked pending_call

    module _ (same : same_value x (as_word (slot_value slots k)) ≡ true) where
      alike_on : step_at v d t.pending_call (frame_view t.frame)
          ≡ Some (on (fetches (frame_view t.frame) number x) (matches v d (frame_view t.frame) number (rest t.frame) (Compare k c weak) place wanted x)
          (slot_pointer slots (hand slots)))
      alike_on =
          let w = frame_view t.frame in
          let ts = rest t.frame in
          let a = Compare k c weak in
          seen_on ∙ ap (λ (s : Step). Some s) (cond-true (same_value x wanted.expected)
          (on (fetches w number x) (matches v d w number ts a place wanted x) (slot_pointer slots (hand slots)))
          (takes v d w number ts a place (Some wanted) x) same)

      -- the funds of what is to go in are brought
      pub fetches_funds : (p : Handle) → slot_pointer slots (hand slots) ≡ Some p
          → step_at v d t.pending_call (frame_view t.frame) ≡ Some (fetches (frame_view t.frame) number x p)
      fetches_funds p at =
          let w = frame_view t.frame in
          alike_on
          ∙ ap (λ (o : Option Handle). Some (on (fetches w number x) (matches v d w number (rest t.frame) (Compare k c weak) place wanted x) o)) at

      -- or there are none to bring
      pub fetches_none : slot_pointer slots (hand slots) ≡ None
          → step_at v d t.pending_call (frame_view t.frame) ≡ Some (matches v d (frame_view t.frame) number (rest t.frame) (Compare k c weak) place wanted x)
      fetches_none at =
          let w = frame_view t.frame in
          alike_on
          ∙ ap (λ (o : Option Handle). Some (on (fetches w number x) (matches v d w number (rest t.frame) (Compare k c weak) place wanted x) o)) at

  -- the next step of a compare that has brought funds
  pub matched_at : t.pending_call ≡ Matched x
      → step_at v d t.pending_call (frame_view t.frame) ≡ Some (matches v d (frame_view t.frame) number (rest t.frame) (Compare k c weak) place wanted x)
  matched_at e =
      let w = frame_view t.frame in
      ap (λ (h : PendingCall). step_at v d h w) e ∙ ap (λ (ts : List Task). matched v d w x ts) (todo_at t.frame lt)
      ∙ ap (λ (a : Act). matched_on v d w number (rest t.frame) x a) act

  -- a compare that can swap
  module _ (at : step_at v d t.pending_call (frame_view t.frame) ≡ Some
      (matches v d (frame_view t.frame) number (rest t.frame) (Compare k c weak) place wanted x))
      (goes : waits v t.pending_call (frame_view t.frame) ≡ false) where
    -- swaps
    pub swaps_it : (r : Stepped) (t' : Thread) (v' : GhostState) → (word_of_cell v place == cell_bits x) ≡ true
        → is_expected (model_state v) slots k c ≡ true
        → r ≡ Event (answers number true) → v' ≡ ghost_after_step v d (OnCell (CompareSwap place x wanted))
        → frame_view t'.frame ≡ compared_frame t v c true
        → t'.pending_call ≡ gives_back (kind_in_state (model_state v) place) number x x.owned → HasStepped d t v r t' v'
    swaps_it r t' v' same tells answer ghost_state walked pending_call =
        let w = frame_view t.frame in
        let h = gives_back (kind_in_state (model_state v) place) number x x.owned in
        done true (OnCell (CompareSwap place x wanted)) h r t' v' goes refl
        (at ∙ ap (λ (s : Step). Some s) (cond-true (word_of_cell v place == cell_bits x)
        (step_of_act v d w number (rest t.frame) (Compare k c weak) (Some (OnCell (CompareSwap place x wanted))) h)
        (within w number None (missed number (slot_pointer slots (hand slots)))) same)) tells answer ghost_state walked pending_call

    -- or the cell shows something else: it gives back what was brought, and begins again
    pub swaps_none : (r : Stepped) (t' : Thread) (v' : GhostState) → (word_of_cell v place == cell_bits x) ≡ false → r ≡ Quiet (silent number) → v' ≡ v
        → frame_view t'.frame ≡ frame_view t.frame → t'.pending_call ≡ missed number (slot_pointer slots (hand slots)) → HasStepped d t v r t' v'
    swaps_none r t' v' same answer ghost_state walked pending_call =
        let w = frame_view t.frame in
        let h = gives_back (kind_in_state (model_state v) place) number x x.owned in
        stepped_as d t v (within w number None (missed number (slot_pointer slots (hand slots)))) r t' v' goes
        (at ∙ ap (λ (s : Step). Some s) (cond-false (word_of_cell v place == cell_bits x)
        (step_of_act v d w number (rest t.frame) (Compare k c weak) (Some (OnCell (CompareSwap place x wanted))) h)
        (within w number None (missed number (slot_pointer slots (hand slots)))) same)) answer ghost_state walked pending_call
