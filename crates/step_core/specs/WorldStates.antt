-- What is seen of a world, and what any step does to it. All of it is own.
use Rattle.std.specs.Prelude.{◌≡◌, ◌≢◌, ◌↔◌, ℕ, ◌<◌, Bool, true, false, List, [], ◌∷◌}
use Rattle.std.specs.Prelude.{length, get_or, None}
use Rattle.control_word.specs.declared.model.event.Event.{Event}
use Rattle.control_word.specs.Histories.{entry}
use Rattle.step_table.specs.Registers.{HoldsBag, slot_pointer}
use Rattle.control_word.specs.declared.model.view.Pending.TheVariants.{Idle}
use Rattle.step_table.specs.GhostStates.{Nothing, GhostState, pending}
use Rattle.step_threads.specs.declared.pending_call.PendingCall.{PendingCall}
use Rattle.step_threads.specs.declared.pending_call.PendingCall.TheVariants.{Rest}
use Rattle.step_threads.specs.declared.said.Stepped.{Stepped}
use Rattle.step_threads.specs.declared.said.Stepped.TheVariants as stepped
use Rattle.step_threads.specs.declared.said.Stepped.TheVariants.{Done}
use Rattle.step_threads.specs.Frames.{FrameView, other}
use Rattle.step_threads.specs.AbstractStates.{AbstractState, frame_of}

-- the table, where each thread is, and what it has begun
pub record WorldState : Type 0 where
  pub ghost_state : GhostState
  pub frame_views : List FrameView
  pub pending_calls : List PendingCall

abbrev pub abstraction : WorldState → AbstractState
abstraction u = record { extent = u.ghost_state.extent; history = u.ghost_state.history; frame_views = u.frame_views }

abbrev pub pending_call_of : WorldState → ℕ → PendingCall
pending_call_of u d = get_or u.pending_calls d Rest

-- the world is as large as it was: threads, blocks, cells and allowance
abbrev pub IsAsLarge : WorldState → WorldState → Type 0
IsAsLarge u u' = u'.ghost_state.extent ≡ u.ghost_state.extent

-- the slots of each thread have just the handles that the history says its desk has
abbrev pub AllHold : WorldState → Type 0
AllHold u = (d : ℕ) → d < length u.frame_views → HoldsBag d (frame_of (abstraction u) d).slots u.ghost_state

-- a thread that has begun nothing has no call half done in its desk's view
abbrev pub AllRestIdle : WorldState → Type 0
AllRestIdle u = (d : ℕ) → pending_call_of u d ≡ Rest → pending u.ghost_state d ≡ Idle

-- thread d has made its last act, and ended its last object, and its names hold nothing
pub record IsOver (d : ℕ) (u : WorldState) : Type 0 where
  pub frame_view : (frame_of (abstraction u) d).todo ≡ []
  pub endings : (frame_of (abstraction u) d).endings ≡ []
  pub pending_call : pending_call_of u d ≡ Rest
  pub names : (i : ℕ) → i < other (frame_of (abstraction u) d).slots
      → slot_pointer (frame_of (abstraction u) d).slots i ≡ None

abbrev pub is_event : Stepped → Bool
is_event (stepped.Event x) = true
is_event _ = false

-- what any step of thread d does, by what it answers: an event is one more entry of this thread's desk in the
-- history, and any other step leaves the history as it was; the answer is `Done` just at the thread's end, and then
-- nothing changes; the other threads are where they were; and after it the slots of all threads have just what the
-- history says, and threads that have begun nothing have no call half done
pub record TakesStep (d : ℕ) (u : WorldState) (r : Stepped) (u' : WorldState) : Type 0 where
  pub event : is_event r ≡ true → (e : Event Nothing) × (u'.ghost_state.history ≡ entry d e ∷ u.ghost_state.history)
  pub quiet : is_event r ≡ false → u'.ghost_state.history ≡ u.ghost_state.history
  pub over : (r ≡ Done) ↔ IsOver d u
  pub stays : r ≡ Done → u' ≡ u
  pub frame_views : (e : ℕ) → e ≢ d → frame_of (abstraction u') e ≡ frame_of (abstraction u) e
  pub pending_calls : (e : ℕ) → e ≢ d → pending_call_of u' e ≡ pending_call_of u e
  pub actors : length u'.frame_views ≡ length u.frame_views
  pub extent : IsAsLarge u u'
  pub hands : AllHold u'
  pub idle : AllRestIdle u'
