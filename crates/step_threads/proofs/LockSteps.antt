-- What the steps of a thread are that locks a weak pointer.
use Rattle.std.proofs.Common.{◌≡◌, ℕ, ◌<◌, Bool, true, false, cond, List, length, ◌==◌, Some, None}
use Rattle.std.proofs.Common.{Option, option_map, sym, ap, ◌∙◌}
use Rattle.step_threads.proofs.Prelude
use Prelude.{Act, as_owner, by_word, cond-false, cond-true, first, frame_settled, frame_view}
use Prelude.{FrameView, GhostState, Handle, Lock, lock, locked_pointer, Locking, model_state, on}
use Prelude.{owner_word, PendingCall, Rest, rest, row_in, Said, said_by_row, slot_pointer, Step}
use Prelude.{step_at, step_of_act, taking, Task, task_at, Thread, trying, weak_slot, went}
use Rattle.step_threads.specs.NextSteps.{tried}
use Rattle.step_threads.specs.Rows.{lock_answer}
use Rattle.step_threads.specs.AbstractStates.{finds_owner}
use Rattle.step_threads.specs.Steps.{looks, tries}
use Rattle.step_threads.proofs.Frames.{todo_at}

-- what a lock says that is done
abbrev pub lock_said : ℕ → Bool → Bool → Said
lock_said n must got = record { statement = n; answer = Some (lock_answer must got); ended = None }

module _ (v : GhostState) (d : ℕ) (w : FrameView) (n : ℕ) (ts : List Task) (k : ℕ) (must : Bool) where
  -- where a lock leaves the thread that found this
  abbrev pub locked_frame : Option Handle → Bool → FrameView
  locked_frame o got =
      let y = taking w.slots must (cond got (option_map as_owner o) None) in frame_settled y.0 y.1 w.endings ts

  module _ (o : Option Handle) (got : Bool) (at : weak_slot (slot_pointer w.slots k) ≡ o) (finds : finds_owner (model_state v) o ≡ got) where
    found : finds_owner (model_state v) (weak_slot (slot_pointer w.slots k)) ≡ got
    found = ap (finds_owner (model_state v)) at ∙ finds

    pub lock_says : lock_said n must got ≡ said_by_row n (row_in (by_word v) (model_state v) d w.slots w.taken (Lock k must))
    lock_says = ap (lock_said n must) (sym found)

    pub lock_went : locked_frame o got ≡ went (model_state v) d w n ts (Lock k must)
    lock_went = ap (λ (q : Option Handle). locked_frame q got) (sym at) ∙ ap (locked_frame (weak_slot (slot_pointer w.slots k))) (sym found)

  -- the first step of a lock: without a weak pointer it is done
  pub lock_none : weak_slot (slot_pointer w.slots k) ≡ None → first v d w n ts (Lock k must) ≡ step_of_act v d w n ts (Lock k must) None Rest
  lock_none at = ap (on (looks v d w n ts (Lock k must)) (step_of_act v d w n ts (Lock k must) None Rest)) at

  module _ (p : Handle) (at : weak_slot (slot_pointer w.slots k) ≡ Some p) where
    lock_looks : first v d w n ts (Lock k must) ≡ looks v d w n ts (Lock k must) p
    lock_looks = ap (on (looks v d w n ts (Lock k must)) (step_of_act v d w n ts (Lock k must) None Rest)) at

    -- it finds that no owner is left
    pub lock_late : (owner_word v p == 0) ≡ true
        → first v d w n ts (Lock k must) ≡ step_of_act v d w n ts (Lock k must) (Some (lock (model_state v) p)) Rest
    lock_late zero =
        lock_looks ∙ cond-true (owner_word v p == 0) (step_of_act v d w n ts (Lock k must) (Some (lock (model_state v) p)) Rest)
        (trying w n (owner_word v p)) zero

    -- or it is tried with the word that it found
    pub lock_found : (owner_word v p == 0) ≡ false → first v d w n ts (Lock k must) ≡ trying w n (owner_word v p)
    lock_found some =
        lock_looks ∙ cond-false (owner_word v p == 0) (step_of_act v d w n ts (Lock k must) (Some (lock (model_state v) p)) Rest)
        (trying w n (owner_word v p)) some

-- a lock that is under way
module _ (v : GhostState) (d : ℕ) (t : Thread) (k : ℕ) (must : Bool) (word : ℕ) (p : Handle) (pending_call : t.pending_call ≡ Locking word)
    (lt : t.frame.at < length t.frame.tasks.items) (act : (task_at t.frame).act ≡ Lock k must)
    (at : weak_slot (slot_pointer t.frame.registers.slots.items k) ≡ Some p) where
  tries_on : step_at v d t.pending_call (frame_view t.frame)
      ≡ Some (tries v d (frame_view t.frame) (task_at t.frame).statement (rest t.frame) (Lock k must) word p)
  tries_on =
      let w = frame_view t.frame in
      let n = (task_at t.frame).statement in
      let ts = rest t.frame in
      ap (λ (h : PendingCall). step_at v d h w) pending_call ∙ ap (tried v d w word) (todo_at t.frame lt)
      ∙ ap (λ (a : Act). option_map (tries v d w n ts a word) (locked_pointer w.slots a)) act
      ∙ ap (option_map (tries v d w n ts (Lock k must) word)) at

  -- it finds that word
  pub locks_it : (owner_word v p == word) ≡ true → step_at v d t.pending_call (frame_view t.frame)
      ≡ Some (step_of_act v d (frame_view t.frame) (task_at t.frame).statement (rest t.frame) (Lock k must) (Some (lock (model_state v) p)) Rest)
  locks_it same =
      let w = frame_view t.frame in
      let n = (task_at t.frame).statement in
      tries_on ∙ ap (λ (s : Step). Some s) (cond-true (owner_word v p == word)
      (step_of_act v d w n (rest t.frame) (Lock k must) (Some (lock (model_state v) p)) Rest) (trying w n (owner_word v p)) same)

  -- or another
  pub locks_on : (owner_word v p == word) ≡ false
      → step_at v d t.pending_call (frame_view t.frame) ≡ Some (trying (frame_view t.frame) (task_at t.frame).statement (owner_word v p))
  locks_on other =
      let w = frame_view t.frame in
      let n = (task_at t.frame).statement in
      tries_on ∙ ap (λ (s : Step). Some s) (cond-false (owner_word v p == word)
      (step_of_act v d w n (rest t.frame) (Lock k must) (Some (lock (model_state v) p)) Rest) (trying w n (owner_word v p)) other)
