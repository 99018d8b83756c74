-- What turns do and say is what the threads' statements ask for, act by act. All of it is own.
use Rattle.std.specs.Prelude.{◌≡◌, ℕ, ◌-◌, List}
use Rattle.std.specs.List.{flat_map}
use Rattle.step_table.specs.Openings.{opening}
use Rattle.step_table.specs.GhostStates.{Nothing}
use Rattle.step_threads.specs.declared.said.Said.{Said}
use Rattle.step_threads.specs.TraceLabels.{TraceLabel, GoesThrough, Over, ahead, lines, onto, spoken}
use Rattle.step_threads.specs.AbstractStates.{AbstractState, frame_of}
use Rattle.step_core.specs.Following.{no_worth}
use Rattle.script_text.specs.Traces.{Item}

-- what was said, by its thread's desk, where there was something to say
abbrev pub spoken_of : Item → List (ℕ × Said)
spoken_of x = spoken (x.0 - 1) x.1

-- Turns that lead from c to the last abstract state make some acts: their events come on top of the history; each
-- thread's are what its statements and its end ask for, from where it was to its end; and what the turns say is what
-- the acts say
pub record TurnsFollow (c : AbstractState) (items : List Item) (last : AbstractState) : Type 0 where
  pub trace_labels : List (TraceLabel Nothing)
  pub history : last.history ≡ onto c.history trace_labels
  pub each : (d : ℕ) → GoesThrough no_worth (opening c.extent) c.history d (frame_of c d) trace_labels (frame_of last d)
  pub over : (d : ℕ) → ahead (frame_of last d) ≡ Over
  pub says : lines trace_labels ≡ flat_map spoken_of items
