-- What holds after each step of a run, and of each of its steps.
use Rattle.std.specs.Prelude.{◌≡◌, ◌≢◌, ◌↔◌, ◌⊎◌, ℕ, ◌+◌, ◌-◌, ◌<◌, ◌≤◌}
use Rattle.std.specs.Prelude.{Bool, true, false, List, [], ◌∷◌, length, slice_index, Option, Some, None}
use Rattle.std.specs.Prelude.{MatchOption}
use Rattle.control_word.specs.declared.model.event.Event.{Event}
use Rattle.control_word.specs.declared.model.event.Event.TheVariants.{Leave, Lock}
use Rattle.control_word.specs.declared.model.handle.NumberedHandle.{NumberedHandle}
use Rattle.control_word.specs.Handles.{object_of}
use Rattle.control_word.specs.Histories.{entry, given}
use Rattle.control_word.specs.Layout.{spot}
use Rattle.control_word.specs.Packing.{number_of}
use Rattle.control_word.specs.State.{InShape, State, common, count, live, weak}
use Rattle.control_word.specs.Views.{IsAtRest}
use Rattle.step_threads.specs.declared.said.Answer.{Answer}
use Rattle.step_table.specs.declared.memory.ended.Ended.{Ended}
use Rattle.step_threads.specs.declared.said.Stepped.{Stepped}
use Rattle.step_threads.specs.declared.said.Stepped.TheVariants.{Event as Step, Quiet, Waited, Done}
use Rattle.step_core.specs.declared.trace.TraceStep.{TraceStep}
use Rattle.step_table.specs.Openings.{opening}
use Rattle.step_threads.specs.declared.programs.act.Act.TheVariants as act
use Rattle.step_threads.specs.declared.programs.act.Task.{Task}
use Rattle.step_threads.specs.AbstractStates.{frame_of}
use Rattle.step_threads.specs.Rows.{lock_answer}
use Rattle.step_table.specs.AtomicSteps.{remains}
use Rattle.step_table.specs.Registers.{Slots, slot_pointer, weak_slot}
use Rattle.step_table.specs.GhostStates.{Nothing, Seats, model_state}
use Rattle.step_core.specs.WorldStates.{AllHold, AllRestIdle, WorldState, abstraction}

-- the numbers in a block's words are those of the handles on it, in bags and cells together; the weak word has one
-- more while there are owners ([util.smartptr.shared.obs], and own)
pub record TellsHandles (words : List ℕ) (s : State) (b : ℕ) : Type 0 where
  pub owners : number_of (slice_index words (spot b 0)) ≡ count s (s.latest b)
  pub weaks : number_of (slice_index words (spot b 1)) ≡ weak s (s.latest b) + common (s.object (s.latest b)).phase

-- at each block at rest the counts are exactly the handles
abbrev pub CountsAtRest : WorldState → Type 0
CountsAtRest u =
    (b : ℕ) → InShape (opening u.ghost_state.extent) b → IsAtRest (model_state u.ghost_state) u.ghost_state.views b
    → TellsHandles u.ghost_state.words (model_state u.ghost_state) b

-- the step was this event
abbrev pub Was : Event Nothing → WorldState → TraceStep → WorldState → Type 0
Was e u x u' = u'.ghost_state.history ≡ entry (x.actor - 1) e ∷ u.ghost_state.history

-- a lock gave an owner exactly where one remained at its step ([util.smartptr.weak.obs])
abbrev pub LocksWhereOwned : WorldState → TraceStep → WorldState → Type 0
LocksWhereOwned u x u' =
    (w : NumberedHandle) (gave : Bool) → Was (Lock w gave) u x u'
    → (gave ≡ true) ↔ (0 < count (model_state u.ghost_state) (object_of w))

-- each object's value came out at most once, and exactly when the object is no longer live
-- ([util.smartptr.shared.dest])
abbrev pub ValuesOnce : WorldState → Type 0
ValuesOnce u =
    (o : ℕ) → 1 ≤ o → o ≤ (model_state u.ghost_state).made
    → (given o u.ghost_state.history ≤ 1)
    × (given o u.ghost_state.history ≡ 1 ↔ ((model_state u.ghost_state).object o).phase ≢ live)

-- the step was the leave of the last owner of o
pub record LastLeft (o : ℕ) (u : WorldState) (x : TraceStep) (u' : WorldState) : Type 0 where
  pub owner : NumberedHandle
  pub left : Was (Leave owner true) u x u'
  pub object : object_of owner ≡ o
  pub last : count (model_state u.ghost_state) o ≡ 1

-- the value of o had not come out before the step, and has after it
pub record ValueCameOut (o : ℕ) (u u' : WorldState) : Type 0 where
  pub before : given o u.ghost_state.history ≡ 0
  pub after : given o u'.ghost_state.history ≡ 1

-- a value comes out just at the leave of the object's last owner
abbrev pub ValuesAtLastLeave : WorldState → TraceStep → WorldState → Type 0
ValuesAtLastLeave u x u' =
    (o : ℕ) → (LastLeft o u x u' × ValueCameOut o u u')
    ⊎ ((LastLeft o u x u' → ⊥) × (given o u'.ghost_state.history ≡ given o u.ghost_state.history))

-- what a step tells of an object whose last owner left
abbrev pub step_ended : Stepped → Option Ended
step_ended (Step x) = x.ended
step_ended (Quiet x) = x.ended
step_ended Waited = None
step_ended Done = None

-- a step tells what an object leaves just where its last owner left: the object's fields, or that it was null
abbrev pub TellsWhatIsLeft : WorldState → TraceStep → WorldState → Type 0
TellsWhatIsLeft u x u' =
    MatchOption (step_ended x.stepped) ((o : ℕ) → LastLeft o u x u' → ⊥)
    (λ e. (o : ℕ) × LastLeft o u x u' × (e ≡ remains ((model_state u.ghost_state).object o)))

-- what a step answers
abbrev pub answer_by : Stepped → Option Answer
answer_by (Step x) = x.answer
answer_by (Quiet x) = x.answer
answer_by Waited = None
answer_by Done = None

abbrev pub statement_by : Stepped → Option ℕ
statement_by (Step x) = Some x.statement
statement_by (Quiet x) = Some x.statement
statement_by Waited = None
statement_by Done = None

-- the next act is a lock of statement k, which must give an owner or need not
abbrev pub LocksNext : ℕ → Bool → List Task → Type 0
LocksNext k must [] = ⊥
LocksNext k must (t ∷ ts) = (t.statement ≡ k) × ((i : ℕ) × (t.act ≡ act.Lock i must))

-- the next act is a lock of a name that has no weak pointer to an object
abbrev pub LocksNone : Bool → Slots → List Task → Type 0
LocksNone must slots [] = ⊥
LocksNone must slots (t ∷ ts) =
    (i : ℕ) × (t.act ≡ act.Lock i must) × (weak_slot (slot_pointer slots i) ≡ None)

-- A lock says whether it gave an owner, by an answer of its statement; one that must give an owner is refused where
-- it did not. Nothing else answers so, but a lock of a name without a weak pointer to an object, which gives no owner
-- ([util.smartptr.weak.obs], [util.smartptr.shared.const])
pub record TellsLocks (u : WorldState) (x : TraceStep) (u' : WorldState) : Type 0 where
  pub answers : (w : NumberedHandle) (gave : Bool) → Was (Lock w gave) u x u'
      → (k : ℕ) × (must : Bool) × LocksNext k must (frame_of (abstraction u) (x.actor - 1)).todo
      × (statement_by x.stepped ≡ Some k) × (answer_by x.stepped ≡ Some (lock_answer must gave))
  pub events : (must gave : Bool) → answer_by x.stepped ≡ Some (lock_answer must gave)
      → let w = frame_of (abstraction u) (x.actor - 1) in
      ((h : NumberedHandle) × Was (Lock h gave) u x u') ⊎ ((gave ≡ false) × LocksNone must w.slots w.todo)

-- no block is in the midst of anything
abbrev pub AllAtRest : WorldState → Type 0
AllAtRest u = (b : ℕ) → InShape (opening u.ghost_state.extent) b → IsAtRest (model_state u.ghost_state)
    u.ghost_state.views b

-- What holds before the first step of a run, and after each. Each thread's desk has one view, without a half-done call
-- while the thread has begun nothing: so a block is kept from rest only by an object that ends, or by what a thread has
-- begun
pub record AfterEach (u : WorldState) : Type 0 where
  pub counts : CountsAtRest u
  pub once : ValuesOnce u
  pub hands : AllHold u
  pub views : Seats u.ghost_state.views (length u.frame_views)
  pub idle : AllRestIdle u

-- what holds of each step
pub record OfEach (u : WorldState) (x : TraceStep) (u' : WorldState) : Type 0 where
  pub locks : LocksWhereOwned u x u'
  pub answers : TellsLocks u x u'
  pub values : ValuesAtLastLeave u x u'
  pub told : TellsWhatIsLeft u x u'
