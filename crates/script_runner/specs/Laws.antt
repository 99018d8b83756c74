-- How a worker's lines go on with its desk's history, from the split that made its desk to the end of the run: each law
-- by itself. All of it is own.
use Rattle.std.specs.Prelude.{◌≡◌, ℕ, true, List, [], ◌++◌, None, Some}
use Rattle.control_word.specs.declared.model.event.Event.{Event}
use Rattle.control_word.specs.Histories.{IsLegal, leads}
use Rattle.control_block.specs.Desks.{AddsEvent, DeskNow, state_of}
use Rattle.control_block.specs.Own as own
use Rattle.control_block.specs.Parting.{JoinsWith, SplitsOff}
use Rattle.control_block.specs.Rule.{opening_of}
use Rattle.control_block.specs.declared.handles.Held.{Held}
use Rattle.step_table.specs.declared.memory.form.Form.{Form}
use Rattle.step_threads.specs.declared.said.Said.{Said}
use Rattle.step_threads.specs.Frames.{FrameView}
use Rattle.step_threads.specs.TraceLabels.{DoesNext, Over, ahead}
use Rattle.step_threads.specs.Interleavings.{Marked, first_frame}
use Rattle.step_threads.specs.Programs.{Part}
use Rattle.script_runner.specs.Logs.{TellsThread, trace_label, told_line}

module _ (V : Type 0) where
  -- a worker whose desk was just split off is at its thread's first act, and has no line
  abbrev pub BeginsThread : Type 0
  BeginsThread =
      (worth : Form → V) (part : Part) (d : DeskNow V) (a k : ℕ) (hs : List Held) (e new : DeskNow V)
      → SplitsOff d a k hs e new
      → TellsThread worth part new.name new (first_frame part) []

  -- it goes on by an act that is no event of its desk's
  abbrev pub GoesOnByMark : Type 0
  GoesOnByMark =
      (worth : Form → V) (part : Part) (n : ℕ) (d : DeskNow V) (w u : FrameView) (log : List Said) (x : Said)
      → TellsThread worth part n d w log → DoesNext worth (state_of d) w (trace_label n None x) u
      → TellsThread worth part n d u (log ++ told_line x)

  -- or by a call of its desk's, in the state in which the event stands: other desks may have made events since
  abbrev pub GoesOnByCall : Type 0
  GoesOnByCall =
      (worth : Form → V) (part : Part) (n : ℕ) (d e : DeskNow V) (v : Event V) (w u : FrameView)
      (log : List Said) (x : Said)
      → TellsThread worth part n d w log → (adds : AddsEvent d v e)
      → DoesNext worth (leads (opening_of d.shape) (adds.between ++ d.seen)) w (trace_label n (Some v) x) u
      → TellsThread worth part n e u (log ++ told_line x)

  -- where its thread is over and its desk is joined, the history that both have seen has what the thread does from its
  -- first act to its end, with these lines
  abbrev pub IsJoined : Type 0
  IsJoined =
      (worth : Form → V) (part : Part) (n : ℕ) (d other e : DeskNow V) (w : FrameView) (log : List Said)
      → TellsThread worth part n other w log
      → ahead w ≡ Over → other.shape ≡ d.shape → JoinsWith d other e
      → Marked worth (opening_of d.shape) e.seen n part log

  -- and so has the history later, however it goes on
  abbrev pub StaysJoined : Type 0
  StaysJoined =
      (worth : Form → V) (part : Part) (n : ℕ) (d e : DeskNow V) (events : List (Event V)) (log : List Said)
      → IsLegal (opening_of d.shape) d.seen → (state_of d).joined n ≡ true → own.Goes d events e
      → Marked worth (opening_of d.shape) d.seen n part log → Marked worth (opening_of e.shape) e.seen n part log
