-- Runs by single steps, and what they show. All of it is own.
use Rattle.std.specs.Prelude.{◌≡◌, ℕ, ◌++◌, List}
use Rattle.std.specs.List.{flat_map}
use Rattle.script_text.specs.Grammar.{ended}
use Rattle.step_core.specs.declared.trace.TraceStep.{TraceStep}
use Rattle.step_table.specs.Openings.{opening}
use Rattle.step_table.specs.GhostStates.{TableInvariant}
use Rattle.step_threads.specs.Interleavings.{Interleaves, said_on}
use Rattle.step_threads.specs.Programs.{Part}
use Rattle.step_core.specs.Following.{Follows, lines_of, no_worth, said_by}
use Rattle.step_core.specs.Runs.{IsRun, IsScheduled}
use Rattle.step_core.specs.Totals.{IsAtEnd}
use Rattle.step_core.specs.Worlds.{WorldState, abstraction}
use Rattle.script_stepper.specs.Lines.{closing_lines, item_lines}
use Rattle.script_stepper.specs.Running.{heard}

-- the lines of a step
abbrev pub step_lines : TraceStep → List (List ℕ)
step_lines x = flat_map item_lines (heard x.actor (said_by x.stepped))

-- these are the steps of a run with these turns, from u to u': a step for each number, and then each thread alone to
-- its end, in number order. What they do and say is what the threads' statements ask for, act by act, and the words
-- stand for the history
pub record IsStepRun (turns : List ℕ) (u : WorldState) (steps : List TraceStep) (u' : WorldState) : Type 0 where
  pub run : IsRun u steps u'
  pub scheduled : IsScheduled turns u steps u'
  pub follows : Follows u steps u'
  pub kept : TableInvariant u'.ghost_state
  pub over : IsAtEnd u'

-- the history that these steps lead to is an interleaving of these threads, from their first acts to their ends, each
-- of which says what its steps say
abbrev pub IsInterleaving : List Part → List TraceStep → WorldState → Type 0
IsInterleaving parts steps u =
    Interleaves no_worth (opening u.ghost_state.extent) u.ghost_state.history 0 parts (λ d. said_on d (lines_of steps))

-- all lines of a run by single steps: those of its steps, and then the census and the totals of where it ends
abbrev pub shown_steps : List TraceStep → WorldState → List (List ℕ)
shown_steps steps u = flat_map step_lines steps ++ closing_lines (abstraction u)

-- the text is that of such a run
pub record IsStepText (turns : List ℕ) (u : WorldState) (text : List ℕ) : Type 0 where
  pub steps : List TraceStep
  pub last : WorldState
  pub run : IsStepRun turns u steps last
  pub says : text ≡ ended (shown_steps steps last)
