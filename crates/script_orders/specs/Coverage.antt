-- That no outcome is missing, and which orders were run to know it. All of it is own.
use Rattle.std.specs.Prelude.{◌≡◌, ◌≤◌, ◌++◌, ℕ, zero, suc, All, Contains, List, [], ◌∷◌, cond, is_some, length}
use Rattle.std.specs.Prelude.{None, Ok}
use Rattle.script_stepper.specs.Lines.{run_lines}
use Rattle.script_stepper.specs.Running.{AllRest}
use Rattle.script_stepper.specs.Runs.{IsRunText, IsScriptRun}
use Rattle.script_stepper.specs.TurnLists.{list_at}
use Rattle.script_text.specs.Beginnings.{script_abstraction}
use Rattle.script_text.specs.Drafts.{ScriptView}
use Rattle.script_text.specs.Grammar.{ended}
use Rattle.script_text.specs.Traces.{Item, TakeTurns}
use Rattle.step_core.specs.Worlds.{WorldState, abstraction}
use Rattle.step_threads.specs.AbstractStates.{AbstractState, frame_of, next}
use Rattle.script_orders.specs.Outcomes.{IsOutcome, Outcome, texts_of}
use Rattle.script_orders.specs.Sorting.{by_threads}

-- none is missing: whichever list of turns a run of the script has, its text, sorted by threads, is among these
abbrev pub IsComplete : List ℕ → List Outcome → Type 0
IsComplete script outcomes =
    (list run : List ℕ) → IsScriptRun IsRunText script list run → Contains (texts_of outcomes) (by_threads run)

-- the text of a run that says this and ends so, sorted by threads
abbrev pub sorted_text : List Item → AbstractState → List ℕ
sorted_text items last = by_threads (ended (run_lines items last))

-- each thread is at its end
abbrev pub IsOver : AbstractState → Type 0
IsOver c = (d : ℕ) → next (frame_of c d) ≡ None

-- whichever turns come after these, the outcome is among those that were found
abbrev pub Covers : ScriptView → List Outcome → List ℕ → Type 0
Covers script outcomes turns =
    (more : List ℕ) (items : List Item) (last : AbstractState) → All (λ thread. 1 ≤ thread) more
    → TakeTurns (turns ++ more) (script_abstraction script) items last → IsOver last
    → Contains (texts_of outcomes) (sorted_text items last)

-- the outcome of the run with these turns was found
pub record WasFound (bytes : List ℕ) (threads : ℕ) (outcomes : List Outcome) (turns : List ℕ) : Type 0 where
  pub list : List ℕ
  pub text : List ℕ
  pub is : IsOutcome bytes list text
  pub listed : list_at threads list ≡ Ok turns
  pub there : Contains (texts_of outcomes) text

-- the turns name threads, of which there are so many
abbrev pub NameThreads : ℕ → List ℕ → Type 0
NameThreads threads turns = All (λ thread. (1 ≤ thread) × (thread ≤ threads)) turns

-- a world after these turns of a script's threads, none of which is within an act
pub record IsAfter (script : ScriptView) (turns : List ℕ) (u : WorldState) : Type 0 where
  pub named : NameThreads (length script.threads) turns
  pub rests : AllRest u
  pub threads : length u.frame_views ≡ length script.threads
  pub items : List Item
  pub takes : TakeTurns turns (script_abstraction script) items (abstraction u)

-- those of the first n threads that have an act left
abbrev pub acting_in : AbstractState → ℕ → List ℕ
acting_in c zero = []
acting_in c (suc n) = acting_in c n ++ cond (is_some (next (frame_of c n))) (suc n ∷ []) []
