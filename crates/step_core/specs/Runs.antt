-- Runs of a world: steps of any actors, one after another. All of it is own.
use Rattle.std.specs.Prelude.{◌≡◌, ◌≢◌, ℕ, zero, suc, ◌+◌, ◌-◌, ◌<◌, ◌≤◌, ◌==◌, ◌&&◌}
use Rattle.std.specs.Prelude.{◌||◌, Bool, true, not, is_some}
use Rattle.std.specs.Prelude.{false, List, [], ◌∷◌, ◌++◌, All, length, map, slice_index}
use Rattle.control_word.specs.declared.model.view.Pending.{Pending}
use Rattle.control_word.specs.declared.model.view.Pending.TheVariants.{Paying}
use Rattle.step_table.specs.GhostStates.{Nothing, pending}
use Rattle.step_threads.specs.declared.programs.act.Task.{Task}
use Rattle.step_threads.specs.declared.pending_call.PendingCall.{PendingCall}
use Rattle.step_threads.specs.declared.pending_call.PendingCall.TheVariants.{Rest, Refill, Returning}
use Rattle.step_threads.specs.declared.said.Stepped.TheVariants.{Waited, Done}
use Rattle.step_core.specs.declared.trace.RunRefusal.{RunRefusal}
use Rattle.step_core.specs.declared.trace.RunRefusal.TheVariants.{Memory, BadTurn}
use Rattle.step_core.specs.declared.trace.TraceStep.{TraceStep}
use Rattle.step_threads.specs.Frames.{FrameView}
use Rattle.step_threads.specs.Endings.{first_of}
use Rattle.step_threads.specs.AbstractStates.{frame_of}
use Rattle.step_core.specs.WorldStates.{IsOver, WorldState, pending_call_of, abstraction}
use Rattle.step_core.specs.Worlds.{Advances}

-- the steps came one after another, each of its actor
abbrev pub IsRun : WorldState → List TraceStep → WorldState → Type 0
IsRun u [] u' = u' ≡ u
IsRun u (x ∷ xs) u' = (m : WorldState) × Advances (x.actor - 1) u x.stepped m × IsRun m xs u'

-- the step is one of thread d, which wasn't at its end
abbrev pub IsStepOf : ℕ → TraceStep → Type 0
IsStepOf d x = (x.actor ≡ d + 1) × (x.stepped ≢ Done)

-- thread d ran alone to its end
pub record RunsToEnd (d : ℕ) (u : WorldState) (xs : List TraceStep) (u' : WorldState) : Type 0 where
  pub run : IsRun u xs u'
  pub alone : All (IsStepOf d) xs
  pub over : IsOver d u'

-- the statement of a thread's next task; 0 at its end
abbrev pub next_statement : List Task → ℕ
next_statement [] = 0
next_statement (t ∷ ts) = t.statement

-- the statement whose call a thread has under way
abbrev pub call_of : PendingCall → List Task → ℕ
call_of (Refill stage c x k) ts = k
call_of (Returning kind b funds k) ts = k
call_of _ ts = next_statement ts

-- The call of statement k goes on while its thread has begun something, an object ends in its hands, or its next task
-- is of that statement. At a thread's end each leave is a call
abbrev pub call_goes_on : ℕ → PendingCall → FrameView → Bool
call_goes_on k Rest w = is_some (first_of w.endings) || (not (k == 0) && next_statement w.todo == k)
call_goes_on k _ w = true

abbrev pub is_calling : ℕ → WorldState → ℕ → Bool
is_calling k u d = call_goes_on k (pending_call_of u d) (frame_of (abstraction u) d)

-- thread d went on with its call, of statement k, which wasn't done before any of these steps
abbrev pub CallsOn : ℕ → ℕ → WorldState → List TraceStep → WorldState → Type 0
CallsOn k d u [] u' = u' ≡ u
CallsOn k d u (x ∷ xs) u' =
    (is_calling k u d ≡ true) × (x.actor ≡ d + 1) × (m : WorldState) × Advances d u x.stepped m × CallsOn k d m xs u'

abbrev pub call_under_way : ℕ → WorldState → ℕ
call_under_way d u = call_of (pending_call_of u d) (frame_of (abstraction u) d).todo

-- thread d finished its call
pub record FinishesCall (d : ℕ) (u : WorldState) (xs : List TraceStep) (u' : WorldState) : Type 0 where
  pub calls : CallsOn (call_under_way d u) d u xs u'
  pub done : is_calling (call_under_way d u) u' d ≡ false

-- a desk's half-done call owes what it took or brought: a load is under way, or funds are out
abbrev pub is_paying : Pending Nothing → Bool
is_paying (Paying k o p word funds loads) = true
is_paying _ = false

abbrev pub is_owing : WorldState → ℕ → Bool
is_owing u d = is_paying (pending u.ghost_state d)

-- thread d finished the call that owed funds, if it had one
pub record Settles (d : ℕ) (u : WorldState) (xs : List TraceStep) (u' : WorldState) : Type 0 where
  pub owing : is_owing u d ≡ true → FinishesCall d u xs u'
  pub none : is_owing u d ≡ false → (xs ≡ []) × (u' ≡ u)

-- the first n threads ran, in number order, each in this way
abbrev pub InOrder : (ℕ → WorldState → List TraceStep → WorldState → Type 0) → ℕ → WorldState
    → List TraceStep → WorldState → Type 0
InOrder R zero u xs u' = (xs ≡ []) × (u' ≡ u)
InOrder R (suc n) u xs u' =
    (before : List TraceStep) × (mine : List TraceStep) × (m : WorldState)
    × (xs ≡ before ++ mine) × InOrder R n u before m × R n m mine u'

-- each finished the call that owed funds
abbrev pub SettleInOrder : ℕ → WorldState → List TraceStep → WorldState → Type 0
SettleInOrder n u xs u' = InOrder Settles n u xs u'

-- each alone to its end
abbrev pub RunInOrder : ℕ → WorldState → List TraceStep → WorldState → Type 0
RunInOrder n u xs u' = InOrder RunsToEnd n u xs u'

-- no desk's call owes anything
abbrev pub NonePays : WorldState → Type 0
NonePays u = (d : ℕ) → is_owing u d ≡ false

-- one step for each number; then each thread that had a load under way, or funds that it brought or was to give back,
-- finished that call, in number order, so that no call owes anything; and then each ran alone to its end, in number
-- order
pub record IsScheduled (turns : List ℕ) (u : WorldState) (xs : List TraceStep) (u' : WorldState) : Type 0 where
  pub first : List TraceStep
  pub settled : List TraceStep
  pub alone : List TraceStep
  pub middle : WorldState
  pub calm : WorldState
  pub parts : xs ≡ (first ++ settled) ++ alone
  pub numbers : map (λ (x : TraceStep). x.actor) first ≡ turns
  pub run : IsRun u first middle
  pub settles : SettleInOrder (length u.frame_views) middle settled calm
  pub none : NonePays calm
  pub ends : RunInOrder (length u.frame_views) calm alone u'

-- the step didn't wait
abbrev pub MovesOn : TraceStep → Type 0
MovesOn x = x.stepped ≢ Waited

-- the number names one of n actors, from 1
abbrev pub NamesActor : ℕ → ℕ → Type 0
NamesActor n turn = (1 ≤ turn) × (turn ≤ n)

-- the position, from 1, of the first number that names none of n actors
pub record IsFirstBad (n : ℕ) (turns : List ℕ) (position : ℕ) : Type 0 where
  pub some : 1 ≤ position
  pub within : position ≤ length turns
  pub bad : NamesActor n (slice_index turns (position - 1)) → ⊥
  pub before : (i : ℕ) → i < position - 1 → NamesActor n (slice_index turns i)

-- want of memory is told only of numbers that all name actors
abbrev pub IsRefusedFor : ℕ → List ℕ → RunRefusal → Type 0
IsRefusedFor n turns Memory = All (NamesActor n) turns
IsRefusedFor n turns (BadTurn position) = IsFirstBad n turns position

-- a list got longer by steps that are such a run, and none of them waited
pub record AddsRun (R : WorldState → List TraceStep → WorldState → Type 0) (u : WorldState) (xs : List TraceStep)
    (u' : WorldState)
    (xs' : List TraceStep)
    : Type 0 where
  pub added : List TraceStep
  pub items : xs' ≡ xs ++ added
  pub run : R u added u'
  pub moves : All MovesOn added
