-- What steps and turns of a thread do to a world, by the table. All of it is own.
pub use Rattle.step_core.specs.WorldStates.{IsAsLarge, WorldState, pending_call_of, abstraction}
use Rattle.std.specs.Prelude.{◌≡◌, ◌≢◌, ◌⊎◌, ℕ, Bool, true, false, List, [], ◌∷◌, slice_get, slice_set}
use Rattle.std.specs.Prelude.{Option, Some}
use Rattle.control_word.specs.declared.model.handle.NumberedHandle.{NumberedHandle}
use Rattle.control_word.specs.Handles.{object_of}
use Rattle.control_word.specs.Layout.{spot}
use Rattle.control_word.specs.State.{State}
use Rattle.control_word.specs.Views.{owes}
use Rattle.step_threads.specs.declared.pending_call.PendingCall.{PendingCall}
use Rattle.step_threads.specs.declared.pending_call.PendingCall.TheVariants.{Rest, Refill}
use Rattle.step_table.specs.declared.cell_steps.refill.Stage.TheVariants.{Turning}
use Rattle.step_threads.specs.declared.said.Stepped.{Stepped}
use Rattle.step_threads.specs.declared.said.Turned.{Turned}
use Rattle.step_threads.specs.declared.thread.Thread.{Thread}
use Rattle.step_threads.specs.Frames.{FrameView, frame_view}
use Rattle.step_threads.specs.AbstractStates.{rested, state_in, frame_of}
use Rattle.step_threads.specs.NextSteps.{answered, pending_call_by, step_at, ghost_by, frame_by}
use Rattle.step_threads.specs.Steps.{Step}
use Rattle.step_table.specs.GhostStates.{TableInvariant, GhostState, pending}
use Rattle.step_threads.specs.Threads.{FitsThread}
use Rattle.step_core.specs.Following.{Performs}
use Rattle.step_core.specs.Turns.{TurnIs}
use Rattle.step_core.specs.WorldStates.{TakesStep}

abbrev pub thread_frame : Thread → FrameView
thread_frame t = frame_view t.frame

abbrev pub thread_pending : Thread → PendingCall
thread_pending t = t.pending_call

-- each thread has what its desk has
pub record AllFit (v : GhostState) (threads : List Thread) : Type 0 where
  pub each : (d : ℕ) (t : Thread) → slice_get threads d ≡ Some t → FitsThread d t v

-- the next step of thread d, if it isn't at its end
abbrev pub step_of : ℕ → WorldState → Option Step
step_of d u = step_at u.ghost_state d (pending_call_of u d) (frame_of (abstraction u) d)

abbrev pub world_state_by : ℕ → WorldState → Option Step → WorldState
world_state_by d u x =
    record {
      ghost_state = ghost_by u.ghost_state d x;
      frame_views = slice_set u.frame_views d (frame_by (frame_of (abstraction u) d) x);
      pending_calls = slice_set u.pending_calls d (pending_call_by (pending_call_of u d) x);
    }

-- what it answers
abbrev pub answer_at : ℕ → WorldState → Stepped
answer_at d u = answered u.ghost_state d (pending_call_of u d) (frame_of (abstraction u) d)

-- thread d made its next step, and the others are where they were
abbrev pub Steps : ℕ → WorldState → Stepped → WorldState → Type 0
Steps d u r u' = (r ≡ answer_at d u) × (u' ≡ world_state_by d u (step_of d u))

-- thread d made its next step, with this answer: it is the table's, and such as any step is; it is the thread's next
-- act, or on the way of it; and the words stand for the history
pub record Advances (d : ℕ) (u : WorldState) (r : Stepped) (u' : WorldState) : Type 0 where
  pub steps : Steps d u r u'
  pub takes : TakesStep d u r u'
  pub performs : Performs d u r u'
  pub kept : TableInvariant u'.ghost_state

-- thread d made these steps, one after another
abbrev pub StepsBy : ℕ → WorldState → List Stepped → WorldState → Type 0
StepsBy d u [] u' = u' ≡ u
StepsBy d u (r ∷ rs) u' = (m : WorldState) × Advances d u r m × StepsBy d m rs u'

-- thread d made some steps
abbrev pub GoesTo : ℕ → WorldState → WorldState → Type 0
GoesTo d u u' = (rs : List Stepped) × StepsBy d u rs u'

-- a thread has a load under way: the fund that it took isn't turned yet
abbrev pub is_loading : PendingCall → Bool
is_loading (Refill Turning c x k) = true
is_loading _ = false

-- no thread but d has one
abbrev pub NoneLoads : ℕ → WorldState → Type 0
NoneLoads d u = (e : ℕ) → e ≢ d → is_loading (pending_call_of u e) ≡ false

-- no other desk has a load of this object under way, in whichever block it is
abbrev pub NoneLoadsIt : ℕ → WorldState → State → ℕ → Type 0
NoneLoadsIt d u s o =
    (b : ℕ) → s.latest b ≡ o → (e : ℕ) → e ≢ d → owes (pending u.ghost_state e) (spot b 0) ≡ 0

-- a count that thread d tells of this handle leaves no owner out
abbrev pub CountsAll : ℕ → WorldState → State → NumberedHandle → Type 0
CountsAll d u s h = NoneLoads d u ⊎ NoneLoadsIt d u s (object_of h)

-- a whole turn of thread d: its endings go on by themselves, then its next act comes, if it has one, where a count may
-- leave out the loads that others have under way; others are where they were
abbrev pub TakesWholeTurn : ℕ → WorldState → Turned → WorldState → Type 0
TakesWholeTurn d u r u' =
    let c = rested d (abstraction u) in
    TurnIs (CountsAll d u (state_in c)) d c r (abstraction u')
    × (u'.pending_calls ≡ slice_set u.pending_calls d Rest)
