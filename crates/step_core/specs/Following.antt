-- What a world's steps are of its threads' statements, act by act. All of it is own.
use Rattle.std.specs.Prelude.{◌≡◌, ◌⊎◌, ℕ, ◌-◌, ◌++◌, List, [], ◌∷◌, Option, Some, None}
use Rattle.step_table.specs.declared.memory.form.Form.{Form}
use Rattle.step_table.specs.Openings.{opening}
use Rattle.step_table.specs.GhostStates.{Nothing, model_state}
use Rattle.step_threads.specs.declared.said.Said.{Said}
use Rattle.step_threads.specs.declared.said.Stepped.{Stepped}
use Rattle.step_threads.specs.declared.said.Stepped.TheVariants.{Event, Quiet, Waited, Done}
use Rattle.step_threads.specs.TraceLabels.{DoesNext, TraceLabel, GoesThrough, lines, onto, put_on, spoken}
use Rattle.step_threads.specs.AbstractStates.{frame_of}
use Rattle.step_core.specs.declared.trace.TraceStep.{TraceStep}
use Rattle.step_core.specs.WorldStates.{IsAsLarge, WorldState, abstraction}

-- objects of the machine have no value of their own
abbrev pub no_worth : Form → Nothing
no_worth form = tt

-- what a step said; one that waited, or of a thread at its end, said nothing
abbrev pub said_by : Stepped → Option Said
said_by (Event x) = Some x
said_by (Quiet x) = Some x
said_by Waited = None
said_by Done = None

abbrev pub spoken_by : ℕ → Option Said → List (ℕ × Said)
spoken_by d None = []
spoken_by d (Some x) = spoken d x

-- thread d is over, or on the way of its next act: it says nothing, and no thread and no event is further
pub record PassesQuietly (d : ℕ) (u : WorldState) (r : Stepped) (u' : WorldState) : Type 0 where
  pub silent : spoken_by d (said_by r) ≡ []
  pub stays : abstraction u' ≡ abstraction u

-- thread d made its next act
pub record ActsNext (d : ℕ) (u : WorldState) (r : Stepped) (u' : WorldState) : Type 0 where
  pub trace_label : TraceLabel Nothing
  pub desk : trace_label.desk ≡ d
  pub does : DoesNext no_worth (model_state u.ghost_state) (frame_of (abstraction u) d) trace_label
      (frame_of (abstraction u') d)
  pub history : u'.ghost_state.history ≡ put_on d trace_label.event u.ghost_state.history
  pub says : said_by r ≡ Some trace_label.said

-- a step of thread d, with this answer
abbrev pub Performs : ℕ → WorldState → Stepped → WorldState → Type 0
Performs d u r u' = PassesQuietly d u r u' ⊎ ActsNext d u r u'

-- the lines of steps, the oldest first, each with its thread
abbrev pub lines_of : List TraceStep → List (ℕ × Said)
lines_of [] = []
lines_of (x ∷ xs) = spoken_by (x.actor - 1) (said_by x.stepped) ++ lines_of xs

-- These steps lead from u to u', and make some acts: their events come on top of u's history; each thread's are what
-- its statements and its end ask for, act by act, from where it was to where it is; and the steps say what the acts say
pub record Follows (u : WorldState) (xs : List TraceStep) (u' : WorldState) : Type 0 where
  pub trace_labels : List (TraceLabel Nothing)
  pub history : u'.ghost_state.history ≡ onto u.ghost_state.history trace_labels
  pub each : (d : ℕ)
      → GoesThrough no_worth (opening u.ghost_state.extent) u.ghost_state.history d (frame_of (abstraction u) d)
      trace_labels
      (frame_of (abstraction u') d)
  pub says : lines trace_labels ≡ lines_of xs
  pub extent : IsAsLarge u u'
