-- Histories as interleavings of threads, each with its own statements. All of it is own.
use Rattle.std.specs.Prelude.{◌≡◌, ◌⊎◌, ℕ, ◌+◌, ◌<◌, ◌≤◌, ◌==◌, false, cond, List, []}
use Rattle.std.specs.Prelude.{◌∷◌, All, length, replicate, slice_get, Some}
use Rattle.control_word.specs.declared.model.event.Entry.{Entry}
use Rattle.control_word.specs.declared.model.event.Event.{Event}
use Rattle.control_word.specs.declared.model.event.Event.TheVariants.{Split, Join}
use Rattle.control_word.specs.Histories.{IsLegal}
use Rattle.control_word.specs.State.{Opening}
use Rattle.step_table.specs.declared.memory.form.Form.{Form}
use Rattle.step_table.specs.Registers.{Slots, plain}
use Rattle.step_threads.specs.declared.said.Said.{Said}
use Rattle.step_threads.specs.Acts.{tasks_from}
use Rattle.step_threads.specs.Frames.{FrameView, frame_settled}
use Rattle.step_threads.specs.TraceLabels.{TraceLabel, GoesThrough, Over, ahead, lines, onto}
use Rattle.step_threads.specs.Programs.{Part}

-- n names, what is to be dropped and the hand, all empty
abbrev pub no_slots : ℕ → Slots
no_slots n = replicate (n + 2) plain

-- a thread that holds nothing, at the first act of its calls
abbrev pub first_frame : Part → FrameView
first_frame part = frame_settled (no_slots (length part.kinds)) false [] (tasks_from 1 part.calls (length part.kinds))

-- what this desk said
abbrev pub said_on : ℕ → List (ℕ × Said) → List Said
said_on d [] = []
said_on d (x ∷ xs) = cond (x.0 == d) (x.1 ∷ said_on d xs) (said_on d xs)

module _ {V : Type 0} where
  -- with the marks of acts that are no events put in, the history has what this thread does on desk d, from its first
  -- act to its end, and what it says
  pub record Marked (worth : Form → V) (z : Opening) (h : List (Entry V)) (d : ℕ) (part : Part)
      (said : List Said) : Type 0 where
    pub trace_labels : List (TraceLabel V)
    pub events : onto [] trace_labels ≡ h
    pub last : FrameView
    pub goes : GoesThrough worth z [] d (first_frame part) trace_labels last
    pub over : ahead last ≡ Over
    pub says : said_on d (lines trace_labels) ≡ said

  -- splits and joins are no thread's
  abbrev pub IsSplitOrJoin : Event V → Type 0
  IsSplitOrJoin (Split to n hs bs) = Unit {0}
  IsSplitOrJoin (Join other) = Unit {0}
  IsSplitOrJoin _ = ⊥

  -- the history is legal, and an interleaving of these threads, on the desks from n on, each of which says this; nobody
  -- else has an event in it
  pub record Interleaves (worth : Form → V) (z : Opening) (h : List (Entry V)) (n : ℕ) (parts : List Part)
      (said : ℕ → List Said)
      : Type 0 where
    pub legal : IsLegal z h
    pub each : (i : ℕ) (part : Part) → slice_get parts i ≡ Some part
        → Marked worth z h (n + i) part (said (n + i))
    pub others : All (λ (e : Entry V). ((n ≤ e.desk) × (e.desk < n + length parts)) ⊎ IsSplitOrJoin e.event) h
