-- What a thread's next act is, whole: an event or none, by a reply that is right and chosen, what it says, and where
-- all threads are then. All of it is own but the events, which name their sections in the model.
use Rattle.std.specs.Prelude.{◌≡◌, ℕ, Option, Some, None}
use Rattle.control_word.specs.declared.model.event.Event.{Event}
use Rattle.control_word.specs.declared.model.event.Event.TheVariants as event
use Rattle.control_word.specs.declared.model.handle.NumberedHandle.{NumberedHandle}
use Rattle.control_word.specs.Handles.{equivalent, object_of}
use Rattle.control_word.specs.Histories.{IsLegal}
use Rattle.control_word.specs.State.{State, count}
use Rattle.step_table.specs.Openings.{opening}
use Rattle.step_table.specs.GhostStates.{Nothing}
use Rattle.step_threads.specs.declared.programs.act.Task.{Task}
use Rattle.step_threads.specs.declared.said.Said.{Said}
use Rattle.step_threads.specs.declared.said.Turned.{Turned}
use Rattle.step_threads.specs.declared.said.Turned.TheVariants.{Acted, Waited, Done}
use Rattle.step_threads.specs.Frames.{FrameView}
use Rattle.step_threads.specs.TraceLabels.{MakesAct, put_on}
use Rattle.step_threads.specs.Entries.{History, least}
use Rattle.step_threads.specs.AbstractStates.{AbstractState, next, put_frame, rest_of, rested_frame, state_in, frame_of}
use Rattle.step_core.specs.Following.{no_worth}

-- The machine's own choices among the right replies: a make takes the least block of its desk's store, a count leaves
-- no owner out where it is to be exact, and a compare fails only where the cell differs
abbrev pub IsChosen : (NumberedHandle → Type 0) → State → ℕ → Option (Event Nothing) → Type 0
IsChosen Exact s d None = Unit {0}
IsChosen Exact s d (Some (event.Make b enabled null fields value)) = least d s.stores ≡ Some b.0
IsChosen Exact s d (Some (event.Shelve b)) = least d s.stores ≡ Some b.0
IsChosen Exact s d (Some (event.Count h n)) = Exact h → n ≡ count s (object_of h)
IsChosen Exact s d (Some (event.Compare c expected new found swapped weak)) = swapped ≡ equivalent found expected
IsChosen Exact s d (Some _) = Unit {0}

-- each count is to be exact
abbrev pub Always : NumberedHandle → Type 0
Always h = Unit {0}

-- where thread d is after an act with this event that leads it here: ends of objects go on by themselves
abbrev pub abstraction_after : ℕ → AbstractState → History → FrameView → AbstractState
abstraction_after d c h w = put_frame c d w (rested_frame (opening c.extent) d h w)

-- thread d makes this act, by some reply that is right and chosen, and says this; what the act is by its reply is told
-- as that of a single step is (`MakesAct`)
pub record ActsNow (Exact : NumberedHandle → Type 0) (d : ℕ) (c : AbstractState) (t : Task) (said : Said)
    (c' : AbstractState)
    : Type 0 where
  pub event : Option (Event Nothing)
  pub frame_view : FrameView
  pub acts :
      let w = frame_of c d in
      MakesAct no_worth (state_in c) w t (rest_of w.endings w.todo)
      (record { desk = d; event = event; said = said }) frame_view
  pub legal : IsLegal (opening c.extent) (put_on d event c.history)
  pub chosen : IsChosen Exact (state_in c) d event
  pub goes : c' ≡ abstraction_after d c (put_on d event c.history) frame_view

-- a turn of thread d is its next act; at its end it does nothing
abbrev pub TurnIs : (NumberedHandle → Type 0) → ℕ → AbstractState → Turned → AbstractState → Type 0
TurnIs Exact d c (Acted x) c' = (t : Task) × (next (frame_of c d) ≡ Some t) × ActsNow Exact d c t x c'
TurnIs Exact d c Waited c' = ⊥
TurnIs Exact d c Done c' = (next (frame_of c d) ≡ None) × (c' ≡ c)
