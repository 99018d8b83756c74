-- The parts of a turn. All of it is own.
use Rattle.std.specs.Prelude.{◌≡◌, ◌≢◌, ℕ, ◌<◌, ◌≤◌, Bool, true, false, not, ◌&&◌, ◌||◌}
use Rattle.std.specs.Prelude.{List, [], ◌∷◌, length, slice_set, is_some, Option, Some}
use Rattle.step_threads.specs.declared.programs.act.Act.TheVariants.{Make, FromThis}
use Rattle.step_threads.specs.declared.programs.act.Task.{Task}
use Rattle.step_threads.specs.declared.ending.Ending.{Ending}
use Rattle.step_threads.specs.declared.pending_call.PendingCall.{PendingCall}
use Rattle.step_threads.specs.declared.pending_call.PendingCall.TheVariants.{Rest, Making, Locking, Giving, Brought}
use Rattle.step_threads.specs.declared.pending_call.PendingCall.TheVariants.{Saw, Matched}
use Rattle.step_threads.specs.declared.pending_call.PendingCall.TheVariants.{Refill, Returning, Clearing}
use Rattle.step_threads.specs.declared.said.Stepped.{Stepped}
use Rattle.step_threads.specs.declared.said.Stepped.TheVariants as stepped
use Rattle.step_threads.specs.declared.said.Turned.{Turned}
use Rattle.step_threads.specs.declared.said.Turned.TheVariants.{Acted, Waited, Done}
use Rattle.control_word.specs.declared.packed.cell.CellWord.{CellWord}
use Rattle.control_word.specs.declared.shape.Shape.{Shape}
use Rattle.control_word.specs.declared.model.view.Pending.TheVariants.{Idle}
use Rattle.control_word.specs.Packing.{IsCellWord}
use Rattle.control_word.specs.Views.{owes}
use Rattle.step_threads.specs.Frames.{HasCell, FrameView, form_of, going, hand, idle, locked_pointer}
use Rattle.control_word.specs.declared.place.Place.{Place}
use Rattle.step_table.specs.CellAtomicSteps.{owing_funds}
use Rattle.step_table.specs.declared.cell_steps.refill.Stage.{Stage}
use Rattle.step_table.specs.declared.cell_steps.refill.Stage.TheVariants.{Turning, Checking, Lacking, Refilling}
use Rattle.step_table.specs.declared.cell_steps.refill.Stage.TheVariants.{Failing}
use Rattle.step_table.specs.Refills.{RefillFits}
use Rattle.step_table.specs.AtomicSteps.{is_enabled}
use Rattle.step_threads.specs.Endings.{EndsAll, first_of}
use Rattle.step_table.specs.Registers.{HoldsBag, Slots, inside, is_full, slot_pointer}
use Rattle.step_threads.specs.Entries.{least}
use Rattle.step_threads.specs.AbstractStates.{rested, state_in, frame_of}
use Rattle.step_table.specs.GhostStates.{TableInvariant, GhostState, pending, model_state}
use Rattle.step_threads.specs.Threads.{IsClearingMember, IsMatchedBy, IsSeenBy}
use Rattle.step_core.specs.Told.{IsTidy}
use Rattle.step_core.specs.Turns.{TurnIs}
use Rattle.step_core.specs.Worlds.{WorldState, CountsAll, pending_call_of, is_loading, abstraction}

-- a make that is under way is the next act, in the least block of the store
abbrev pub IsUnderWay : ℕ → GhostState → PendingCall → List Task → Type 0
IsUnderWay d v Rest ts = Unit {0}
IsUnderWay d v (Making b i differs) [] = ⊥
IsUnderWay d v (Making b i differs) (t ∷ ts) = (i ≤ 5) × (least d (model_state v).stores ≡ Some b.0)
    × (t.act ≡ Make (form_of t.act))
IsUnderWay d v (Locking word) ts = Unit {0}
IsUnderWay d v (Giving i kind x) [] = ⊥
IsUnderWay d v (Giving i kind x) (t ∷ ts) = (t.act ≡ FromThis i kind) × (is_enabled (model_state v) x ≡ true)
IsUnderWay d v Brought ts = Unit {0}
IsUnderWay d v (Saw x) ts = Unit {0}
IsUnderWay d v (Matched x) ts = Unit {0}
IsUnderWay d v (Refill stage c x k) ts = Unit {0}
IsUnderWay d v (Returning kind b funds k) ts = Unit {0}
IsUnderWay d v Clearing ts = Unit {0}

-- the next act locks a weak pointer
abbrev pub NextActLocks : Slots → List Task → Type 0
NextActLocks slots [] = ⊥
NextActLocks slots (t ∷ ts) = is_full (locked_pointer slots t.act) ≡ true

-- the next act puts a value into a cell
abbrev pub IsSwap : Slots → List Task → Type 0
IsSwap slots [] = ⊥
IsSwap slots (t ∷ ts) = is_some (going slots t.act) ≡ true

-- the next act loads or compares what was seen
abbrev pub IsSeen : Slots → CellWord → List Task → Type 0
IsSeen slots x [] = ⊥
IsSeen slots x (t ∷ ts) = IsSeenBy slots x t.act

-- it swaps what was seen, which is what it expects
abbrev pub IsMatched : Slots → CellWord → List Task → Type 0
IsMatched slots x [] = ⊥
IsMatched slots x (t ∷ ts) = IsMatchedBy slots x t.act

-- a lock, a swap, a load or a compare that is under way is the next act, and a member that is to be taken out is there
abbrev pub IsTried : PendingCall → FrameView → Type 0
IsTried (Locking word) w = NextActLocks w.slots w.todo
IsTried (Giving i kind x) w = inside (slot_pointer w.slots i) ≡ Some x
IsTried Brought w = IsSwap w.slots w.todo
IsTried (Saw x) w = IsSeen w.slots x w.todo
IsTried (Matched x) w = IsMatched w.slots x w.todo
IsTried Clearing w = IsClearingMember w.slots w.endings
IsTried _ w = Unit {0}

-- an act that is half done is one of a statement: no object ends in the thread's hands
abbrev pub IsAlone : PendingCall → List Ending → Type 0
IsAlone Rest es = Unit {0}
IsAlone (Making b i differs) es = es ≡ []
IsAlone (Locking word) es = es ≡ []
IsAlone (Giving i kind x) es = es ≡ []
IsAlone Brought es = es ≡ []
IsAlone (Saw x) es = es ≡ []
IsAlone (Matched x) es = es ≡ []
IsAlone (Refill stage c x k) es = Unit {0}
IsAlone (Returning kind b funds k) es = Unit {0}
IsAlone Clearing es = Unit {0}

-- the shape has the cell of the next act
abbrev pub IsInShape : Shape → List Task → Type 0
IsInShape z [] = Unit {0}
IsInShape z (t ∷ ts) = HasCell z t.act

-- the next task is an act
abbrev pub IsStill : FrameView → List Task → Type 0
IsStill w [] = Unit {0}
IsStill w (t ∷ ts) = idle t.act w.slots w.taken ≡ false

-- what was seen of a cell is the value of a word; at rest no call is half done
abbrev pub IsProperPendingCall : ℕ → GhostState → PendingCall → Type 0
IsProperPendingCall d v Rest = pending v d ≡ Idle
IsProperPendingCall d v (Saw x) = IsCellWord x
IsProperPendingCall d v (Matched x) = IsCellWord x
IsProperPendingCall d v (Refill stage c x k) = is_some x.owned ≡ true
IsProperPendingCall d v _ = Unit {0}

-- funds that are out, or were taken of a cell, are of an object that the thread has a pointer to
abbrev pub FundsAreHeld : ℕ → GhostState → PendingCall → Type 0
FundsAreHeld d v (Refill stage c x k) = RefillFits d stage c x v
FundsAreHeld d v (Returning kind b funds k) = (p : Option Place)
    × (pending v d ≡ owing_funds (model_state v) kind (Some b) p funds 0)
FundsAreHeld d v _ = Unit {0}

-- a fund that was taken isn't turned yet, or as many funds are brought as were taken
abbrev pub is_out : Stage → Bool
is_out Turning = true
is_out Checking = false
is_out Lacking = false
is_out Refilling = true
is_out Failing = true

-- a load is under way, or funds are brought or are to be given back
abbrev pub has_funds_out : PendingCall → Bool
has_funds_out Brought = true
has_funds_out (Matched x) = true
has_funds_out (Refill stage c x k) = is_out stage
has_funds_out (Returning kind b funds k) = true
has_funds_out _ = false

-- what another thread has half done is a load only where its pending call says so
abbrev pub OthersOwe : ℕ → WorldState → Type 0
OthersOwe d u = (e : ℕ) → e ≢ d → is_loading (pending_call_of u e) ≡ false → (i : ℕ)
    → owes (pending u.ghost_state e) i ≡ 0

-- between two steps of thread d
pub record HasBegun (d : ℕ) (u : WorldState) : Type 0 where
  pub within : d < length u.pending_calls
  pub frame_views : d < length u.frame_views
  pub pending_call : IsUnderWay d u.ghost_state (pending_call_of u d) (frame_of (abstraction u) d).todo
  pub tried : IsTried (pending_call_of u d) (frame_of (abstraction u) d)
  pub alone : IsAlone (pending_call_of u d) (frame_of (abstraction u) d).endings
  pub ends : EndsAll d (frame_of (abstraction u) d).endings u.ghost_state
  pub some : 1 < length (frame_of (abstraction u) d).slots
  pub seat : d < u.ghost_state.extent.actors
  pub kept : TableInvariant u.ghost_state
  pub cell : IsInShape u.ghost_state.extent.shape (frame_of (abstraction u) d).todo
  pub holds : HoldsBag d (frame_of (abstraction u) d).slots u.ghost_state
  pub still : IsStill (frame_of (abstraction u) d) (frame_of (abstraction u) d).todo
  pub proper : IsProperPendingCall d u.ghost_state (pending_call_of u d)
  pub others : OthersOwe d u
  pub out : FundsAreHeld d u.ghost_state (pending_call_of u d)
  pub tidy : IsTidy (frame_of (abstraction u) d)

-- the thread's endings go on by themselves: what came out of a member isn't in hand
abbrev pub is_ending : WorldState → ℕ → Bool
is_ending u d = let w = frame_of (abstraction u) d in is_some (first_of w.endings)
    && not (is_full (slot_pointer w.slots (hand w.slots)))

abbrev pub is_refilling : PendingCall → Bool
is_refilling (Refill stage c x k) = true
is_refilling _ = false

abbrev pub is_returning : PendingCall → Bool
is_returning (Returning kind b funds k) = true
is_returning _ = false

-- what a member of an ending object holds is to be taken out
abbrev pub is_clearing : PendingCall → Bool
is_clearing Clearing = true
is_clearing _ = false

-- the rest of an act goes on by itself: funds are given back, a fund is turned and others are put back, or an object
-- ends
abbrev pub has_rest : WorldState → ℕ → Bool
has_rest u d = is_returning (pending_call_of u d) || is_refilling (pending_call_of u d) || is_clearing
    (pending_call_of u d) || is_ending u d

-- what a thread has begun, once no funds are out for what it did
abbrev pub returned : PendingCall → PendingCall
returned (Returning kind b funds k) = Rest
returned (Refill stage c x k) = Rest
returned Clearing = Rest
returned h = h

-- an act that is under way
abbrev pub is_acting : PendingCall → Bool
is_acting (Making b i differs) = true
is_acting (Locking word) = true
is_acting (Giving i kind x) = true
is_acting Brought = true
is_acting (Saw x) = true
is_acting (Matched x) = true
is_acting _ = false

-- the rest of thread d's act has gone on by itself
pub record HasRested (d : ℕ) (u u' : WorldState) : Type 0 where
  pub abstraction : abstraction u' ≡ rested d (abstraction u)
  pub over : has_rest u' d ≡ false
  pub pending_calls : u'.pending_calls ≡ slice_set u.pending_calls d (returned (pending_call_of u d))

abbrev pub turned_by : Stepped → Turned
turned_by (stepped.Event x) = Acted x
turned_by (stepped.Quiet x) = Acted x
turned_by stepped.Waited = Waited
turned_by stepped.Done = Done

-- thread d made its next act, but for the rest that goes on by itself after it
pub record Plays (d : ℕ) (u : WorldState) (r : Turned) (u' : WorldState) : Type 0 where
  pub turn :
      let c = abstraction u in TurnIs (CountsAll d u (state_in c)) d c r (rested d (abstraction u'))
  pub done : is_acting (pending_call_of u' d) ≡ false
  pub pending_calls : u'.pending_calls ≡ slice_set u.pending_calls d (pending_call_of u' d)
