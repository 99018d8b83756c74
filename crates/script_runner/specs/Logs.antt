-- What a worker keeps of its thread while it runs: its lines, beside the history that its desk has seen. All of it is
-- own.
use Rattle.std.specs.Prelude.{◌≡◌, ℕ, cond, ◌||◌, is_some, List, [], ◌∷◌, Option}
use Rattle.control_word.specs.declared.model.event.Event.{Event}
use Rattle.control_block.specs.Desks.{DeskNow}
use Rattle.control_block.specs.Rule.{opening_of}
use Rattle.step_table.specs.declared.memory.form.Form.{Form}
use Rattle.step_threads.specs.declared.said.Said.{Said}
use Rattle.step_threads.specs.Frames.{FrameView}
use Rattle.step_threads.specs.TraceLabels.{TraceLabel, GoesThrough, lines, onto}
use Rattle.step_threads.specs.Interleavings.{first_frame, said_on}
use Rattle.step_threads.specs.Programs.{Part}

-- an act has a line where it answers, or tells of an object
abbrev pub told_line : Said → List Said
told_line x = cond (is_some x.answer || is_some x.ended) (x ∷ []) []

-- what desk n does by an event, or by the mark of an act that is none
abbrev pub trace_label : {V : Type 0} → ℕ → Option (Event V) → Said → TraceLabel V
trace_label n e x = record { desk = n; event = e; said = x }

module _ {V : Type 0} where
  -- with the marks of its acts put in, what the desk has seen takes its thread from its first act to here, and the
  -- lines are what its own events and marks say
  pub record TellsThread (worth : Form → V) (part : Part) (n : ℕ) (d : DeskNow V) (w : FrameView)
      (log : List Said) : Type 0 where
    pub name : d.name ≡ n
    pub trace_labels : List (TraceLabel V)
    pub events : onto [] trace_labels ≡ d.seen
    pub goes : GoesThrough worth (opening_of d.shape) [] n (first_frame part) trace_labels w
    pub says : said_on n (lines trace_labels) ≡ log
