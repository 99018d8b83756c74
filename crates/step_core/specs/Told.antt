-- What a world keeps beside its threads, so that it can tell its totals and its census. All of it is own.
use Rattle.std.specs.Prelude.{◌≡◌, ◌⊎◌, ℕ, ◌+◌, ◌*◌, ◌<◌, ◌≤◌, ◌==◌, Bool, true}
use Rattle.std.specs.Prelude.{false, cond, List, [], ◌∷◌, length, map, is_some}
use Rattle.control_word.specs.State.{State, ending}
use Rattle.step_threads.specs.declared.programs.act.Act.TheVariants.{Clear}
use Rattle.step_threads.specs.declared.programs.act.Task.{Task}
use Rattle.step_threads.specs.declared.ending.Ending.{Ending}
use Rattle.step_threads.specs.declared.pending_call.PendingCall.{PendingCall}
use Rattle.step_threads.specs.declared.pending_call.PendingCall.TheVariants.{Rest, Making, Locking, Giving, Brought}
use Rattle.step_threads.specs.declared.pending_call.PendingCall.TheVariants.{Saw, Matched}
use Rattle.step_threads.specs.declared.pending_call.PendingCall.TheVariants.{Refill, Returning, Clearing}
use Rattle.step_threads.specs.declared.said.Stepped.{Stepped}
use Rattle.step_threads.specs.declared.said.Stepped.TheVariants.{Event, Quiet, Waited, Done}
use Rattle.step_threads.specs.declared.thread.Thread.{Thread}
use Rattle.step_core.specs.Bounds.{left_to_do}
use Rattle.step_table.specs.Registers.{is_full, slot_pointer}
use Rattle.step_threads.specs.Frames.{FrameView, other}
use Rattle.step_threads.specs.Endings.{endings_in_block}
use Rattle.step_threads.specs.AbstractStates.{frame_of}
use Rattle.step_table.specs.GhostStates.{GhostState, model_state}
use Rattle.step_core.specs.Totals.{ended_in, made_in}
use Rattle.step_core.specs.Watching.{IsWatched}
use Rattle.step_core.specs.Worlds.{WorldState, abstraction, thread_pending, thread_frame}

abbrev pub world_state : GhostState → List Thread → WorldState
world_state v threads = record
    { ghost_state = v; frame_views = map thread_frame threads; pending_calls = map thread_pending threads }

-- each ending object is in an ending of the thread in whose hands it is
abbrev pub AllEndInThreads : State → (ℕ → List Ending) → Type 0
AllEndInThreads s f = (o e : ℕ) → (s.object o).phase ≡ ending e → 0 < endings_in_block (s.object o).block (f e)

-- one of these tasks leaves name i
abbrev pub LeavesName : ℕ → List Task → Type 0
LeavesName i [] = ⊥
LeavesName i (t ∷ ts) = (t.act ≡ Clear i) ⊎ LeavesName i ts

-- each task leaves a name at the thread's end, or has tasks behind it that leave all n names
abbrev pub LeavesAll : ℕ → List Task → Type 0
LeavesAll n [] = Unit {0}
LeavesAll n (t ∷ ts) =
    (((j : ℕ) × (t.act ≡ Clear j)) ⊎ ((i : ℕ) → i < n → LeavesName i ts)) × LeavesAll n ts

-- each name that holds something is left by a task to come
pub record IsTidy (w : FrameView) : Type 0 where
  pub names : (i : ℕ) → i < other w.slots → is_full (slot_pointer w.slots i) ≡ true → LeavesName i w.todo
  pub all : LeavesAll (other w.slots) w.todo

-- the totals are those of the history, and small: an object is made by a task that has the steps of its end, and no
-- more are left than were made. No cell has lost all of its funds. What a name holds is left before its thread's end
pub record TotalsAreTold (u : WorldState) (m e : ℕ) : Type 0 where
  pub threads : length u.frame_views ≡ u.ghost_state.extent.actors
  pub pending_calls : length u.pending_calls ≡ length u.frame_views
  pub made : m ≡ made_in u.ghost_state.history
  pub ended : e ≡ ended_in u.ghost_state.history
  pub order : e ≤ m
  pub few : 28 * m + left_to_do u.frame_views ≤ 13 * e + 8589807616
  pub endings : AllEndInThreads (model_state u.ghost_state) (λ d. (frame_of (abstraction u) d).endings)
  pub watched : IsWatched u.ghost_state u.pending_calls
  pub tidy : (d : ℕ) → IsTidy (frame_of (abstraction u) d)

-- the next step of a make is the one that makes the object
abbrev pub is_prepared : PendingCall → Bool
is_prepared Rest = false
is_prepared (Making b i differs) = i == 5
is_prepared (Locking word) = false
is_prepared (Giving i kind x) = false
is_prepared Brought = false
is_prepared (Saw x) = false
is_prepared (Matched x) = false
is_prepared (Refill stage c x k) = false
is_prepared (Returning kind b funds k) = false
is_prepared Clearing = false

-- how many objects a step made, of a thread that had begun this, and of how many the last owner left by it
abbrev pub step_makes : PendingCall → Stepped → ℕ
step_makes h (Event x) = cond (is_prepared h) 1 0
step_makes h (Quiet x) = 0
step_makes h Waited = 0
step_makes h Done = 0

abbrev pub step_ends : Stepped → ℕ
step_ends (Event x) = cond (is_some x.ended) 1 0
step_ends (Quiet x) = 0
step_ends Waited = 0
step_ends Done = 0
