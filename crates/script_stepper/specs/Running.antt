-- What turns do to a world, and to the text that tells of them. All of it is own.
use Rattle.std.specs.Prelude.{◌≡◌, ◌⊎◌, ℕ, suc, ◌+◌, ◌-◌, ◌*◌, ◌<◌, ◌≤◌, ◌++◌}
use Rattle.std.specs.Prelude.{true, List, [], ◌∷◌, length, replicate, sum_by, Option, Some, None}
use Rattle.std.specs.List.{flat_map}
use Rattle.script_text.specs.Grammar.{ended}
use Rattle.step_threads.specs.declared.ending.Ending.{Ending}
use Rattle.step_threads.specs.declared.pending_call.PendingCall.TheVariants.{Rest}
use Rattle.step_threads.specs.declared.said.Said.{Said}
use Rattle.step_threads.specs.Frames.{FrameView, hand}
use Rattle.step_table.specs.Registers.{is_full, slot_pointer}
use Rattle.step_threads.specs.AbstractStates.{AbstractState, next, frame_of}
use Rattle.step_core.specs.Totals.{ended_in, made_in}
use Rattle.step_core.specs.Worlds.{WorldState, pending_call_of, abstraction}
use Rattle.script_stepper.specs.Lines.{item_lines}
use Rattle.script_text.specs.Traces.{Item, TakeTurns, in_order}

-- no object ends in the thread's hands, or what came out of a member of one is in hand and has to leave first
pub record Waits (w : FrameView) : Type 0 where
  pub some : 0 < length w.slots
  pub endings : (w.endings ≡ []) ⊎ (is_full (slot_pointer w.slots (hand w.slots)) ≡ true)

-- a thread at its end says nothing
abbrev pub heard : ℕ → Option Said → List Item
heard thread None = []
heard thread (Some x) = (thread, x) ∷ []

-- no thread is within an act
pub record AllRest (u : WorldState) : Type 0 where
  pub pending_calls : (d : ℕ) → pending_call_of u d ≡ Rest
  pub frame_views : (d : ℕ) → d < length u.frame_views → Waits (frame_of (abstraction u) d)

-- each thread is at its end
abbrev pub AllOver : WorldState → Type 0
AllOver u = (d : ℕ) → next (frame_of (abstraction u) d) ≡ None

-- the number of a thread of the world, from 1
abbrev pub IsThread : WorldState → ℕ → Type 0
IsThread u thread = (1 ≤ thread) × (thread ≤ length u.frame_views)

-- the parts that ends of objects have left: members to be cleared, and the finish
abbrev pub parts_left : List Ending → ℕ
parts_left [] = 0
parts_left (e ∷ es) = suc (3 - e.stage) + parts_left es

-- how many tasks all threads have left
abbrev pub tasks_in : List FrameView → ℕ
tasks_in frame_views = sum_by (λ (w : FrameView). length w.todo) frame_views

-- the objects whose last owner hasn't left, and those that may still be made, have four parts each
abbrev pub parts_to_come : AbstractState → ℕ
parts_to_come c = 4 * ((made_in c.history - ended_in c.history) + tasks_in c.frame_views)

-- thread d has no more turns left
abbrev pub turns_left : ℕ → AbstractState → ℕ
turns_left d c = length (frame_of c d).todo + parts_left (frame_of c d).endings + parts_to_come c

-- the world took these turns, and the text goes on with the lines of what they said. No thread has more left than
-- before
pub record HasRun (turns : List ℕ) (u u' : WorldState) (old new : List ℕ) : Type 0 where
  pub rests : AllRest u'
  pub items : List Item
  pub takes : TakeTurns turns (abstraction u) items (abstraction u')
  pub text_is : new ≡ old ++ ended (flat_map item_lines items)
  pub most : (d : ℕ) → turns_left d (abstraction u') ≤ turns_left d (abstraction u)

-- so it did by some turns of one thread
abbrev pub RunsAlone : ℕ → WorldState → WorldState → List ℕ → List ℕ → Type 0
RunsAlone thread u u' old new = (n : ℕ) × HasRun (replicate n thread) u u' old new

-- and by these turns, and some more of each thread, in number order, to its end
pub record RunsOut (turns : List ℕ) (u u' : WorldState) (old new : List ℕ) : Type 0 where
  pub more : List ℕ
  pub each : length more ≡ length u.frame_views
  pub run : HasRun (turns ++ in_order 1 more) u u' old new
