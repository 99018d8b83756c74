-- What a script's picture shows. All of it is own.
use Rattle.std.specs.Prelude.{◌≡◌, ◌⊎◌, ℕ, ◌+◌, ◌<◌, ◌≤◌, ◌++◌, Bool, true, false, List, [], length}
use Rattle.std.specs.Prelude.{None, Result, Ok, Err}
use Rattle.run_picture.specs.declared.picture.Picture.{Picture}
use Rattle.run_picture.specs.declared.picture.Row.{Row}
use Rattle.run_picture.specs.Pages.{page_text, run_lines}
use Rattle.run_picture.specs.Shown.{ShowsPicture}
use Rattle.step_core.specs.declared.trace.TraceStep.{TraceStep}
use Rattle.step_core.specs.Worlds.{WorldState}
use Rattle.step_threads.specs.AbstractStates.{AbstractState, frame_of, next}
use Rattle.script_text.specs.declared.fault.Fault.{Fault}
use Rattle.script_text.specs.Beginnings.{script_abstraction, script_world_state}
use Rattle.script_text.specs.Drafts.{ScriptView}
use Rattle.script_text.specs.Traces.{in_order}
use Rattle.script_stepper.specs.StepRuns.{IsStepRun}
use Rattle.script_picture.specs.declared.part.Part.{Part}
use Rattle.script_picture.specs.Acts.{AreRows, Seen, acts_in}
use Rattle.script_picture.specs.Parts.{shown_part}
use Rattle.script_picture.specs.Recording.{IsRecorded, Sees, SeesSteps}

-- The given turns; then each thread runs alone to its end, in number order. This is what all of
-- these turns say, with the state after each, and the last abstract state
pub record IsTurnRun (turns : List ℕ) (c : AbstractState) (seen : List Seen) (last : AbstractState)
    : Type 0 where
  pub more : List ℕ
  pub each : length more ≡ length c.frame_views
  pub sees : Sees (turns ++ in_order 1 more) c seen last
  pub over : (d : ℕ) → next (frame_of last d) ≡ None

-- these are the steps of a script's run by single steps, and what they said, with the state after
-- each
pub record IsFineRun (script : ScriptView) (turns : List ℕ) (seen : List Seen) : Type 0 where
  pub steps : List TraceStep
  pub last : WorldState
  pub run : IsStepRun turns (script_world_state script) steps last
  pub sees : SeesSteps (script_world_state script) steps seen last

-- a script's run with these turns says this: by turns, or by single steps where it is fine
abbrev pub SaysBy : Bool → ScriptView → List ℕ → List Seen → Type 0
SaysBy false script turns seen =
    (last : AbstractState) × IsTurnRun turns (script_abstraction script) seen last
SaysBy true script turns seen = IsFineRun script turns seen

-- the rows are those of a part of a script's run
pub record IsRunRecorded (fine : Bool) (script : ScriptView) (turns : List ℕ) (part : Part)
    (acts : ℕ)
    (list : List Row) : Type 0 where
  pub seen : List Seen
  pub says : SaysBy fine script turns seen
  pub recorded : IsRecorded part acts list seen

-- a part has more acts than one picture shows, and so has its run
abbrev pub HasMoreActs : Part → List Seen → Type 0
HasMoreActs part seen = (part.first + 1999 < part.last) × (part.first + 1999 < length seen)

-- a part begins behind the last act of its run
abbrev pub IsBehind : Part → List Seen → Type 0
IsBehind part seen = (1 < part.first) × (length seen < part.first) × (length seen ≤ part.last)

-- a picture is shown by elements, each closed where it was opened, on which just that is read; or by a
-- page: a head, the lines of its rows, and a tail
abbrev pub ShowsAs : Bool → Picture → List ℕ → Type 0
ShowsAs false picture text = ShowsPicture picture [] text
ShowsAs true picture text = text ≡ page_text picture

-- the text shows a picture whose rows are the acts of a part: each once, in order, with counts of
-- blocks as they are after it, and all pointers that its thread and the cells have then
pub record IsPicture (is_page : Bool) (part : Part) (seen : List Seen) (text : List ℕ) : Type 0 where
  pub picture : Picture
  pub are : AreRows (acts_in part 1 seen) picture.rows.items
  pub shows : ShowsAs is_page picture text

-- nothing is written where a part has too many acts, or begins behind the last one; else the acts
-- are drawn
abbrev pub Draws : Bool → Bool → Part → List Seen → List ℕ → Type 0
Draws is_page true part seen text = (HasMoreActs part seen ⊎ IsBehind part seen) × (text ≡ [])
Draws is_page false part seen text = (HasMoreActs part seen → ⊥) × (IsBehind part seen → ⊥)
    × IsPicture is_page (shown_part part) seen text

-- as many acts of a run, from the first on, as one picture shows
abbrev pub first_acts : Part
first_acts = record { first = 1; last = 2000 }

-- a script's run with these turns says this, and the text is the lines of a picture whose rows are the
-- acts of a part
pub record IsLinesText (part : Part) (script : ScriptView) (turns text : List ℕ) : Type 0 where
  pub seen : List Seen
  pub says : SaysBy false script turns seen
  pub picture : Picture
  pub are : AreRows (acts_in part 1 seen) picture.rows.items
  pub lines : text ≡ run_lines picture

-- whether nothing was drawn, where that was answered
abbrev pub AnswersNone : Result Bool Fault → Bool → Type 0
AnswersNone (Ok answer) none = answer ≡ none
AnswersNone (Err fault) none = Unit {0}

-- a script's run with these turns says this, and the text is the picture of a part of it
pub record IsPictureText (fine is_page : Bool) (part : Part) (answer : Result Bool Fault)
    (script : ScriptView)
    (turns text : List ℕ) : Type 0 where
  pub seen : List Seen
  pub says : SaysBy fine script turns seen
  pub none : Bool
  pub draws : Draws is_page none part seen text
  pub answers : AnswersNone answer none
