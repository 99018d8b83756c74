-- What a run of a script writes. All of it is own.
use Rattle.std.specs.Prelude.{◌≡◌, ℕ, Bool, true, false, List, length, Option, Result, Ok, Err, String}
use Rattle.std.specs.Prelude.{string_bytes}
use Rattle.std.specs.Io.KnownBytes.{Appends}
use Rattle.script_text.specs.declared.fault.Fault.{Fault}
use Rattle.script_text.specs.declared.fault.Fault.TheVariants.{Memory, Syntax, BadTurn, Output, Input}
use Rattle.script_text.specs.Drafts.{ScriptView}
use Rattle.script_text.specs.Grammar.{Faulty, ReadsAs, ended}
use Rattle.script_stepper.specs.declared.runs.answers.Pace.{Pace}
use Rattle.script_stepper.specs.declared.runs.answers.Pace.TheVariants as pace
use Rattle.step_core.specs.Worlds.{WorldState, abstraction}
use Rattle.script_text.specs.Beginnings.{script_abstraction, script_world_state}
use Rattle.script_stepper.specs.Lines.{run_lines}
use Rattle.script_stepper.specs.Sinks.{AppendsBeginning}
use Rattle.script_stepper.specs.StepRuns.{IsStepText}
use Rattle.script_stepper.specs.TurnLists.{list_at}
use Rattle.script_text.specs.Traces.{IsTrace, Item}
use Rattle.step_threads.specs.AbstractStates.{AbstractState}

-- whether the output is what failed
abbrev pub is_output : {A : Type 0} → Result A Fault → Bool
is_output (Ok x) = false
is_output (Err Memory) = false
is_output (Err (Syntax line cause)) = false
is_output (Err (BadTurn position)) = false
is_output (Err Output) = true
is_output (Err Input) = false

-- the text was taken; or nothing, for want of memory; or a beginning of it, where the output failed
abbrev pub Writes : {A : Type 0} → List ℕ → Result A Fault → Option (List ℕ) → Option (List ℕ) → Type 0
Writes text (Ok x) old new = Appends old new text
Writes text (Err Memory) old new = new ≡ old
Writes text (Err (Syntax line cause)) old new = ⊥
Writes text (Err (BadTurn position)) old new = ⊥
Writes text (Err Output) old new = AppendsBeginning old new text
Writes text (Err Input) old new = ⊥

-- the same of one of the texts that P holds of
abbrev pub WritesOne : {A : Type 0} → (List ℕ → Type 0) → Result A Fault → Option (List ℕ)
    → Option (List ℕ) → Type 0
WritesOne P (Ok x) old new = (text : List ℕ) × P text × Appends old new text
WritesOne P (Err Memory) old new = new ≡ old
WritesOne P (Err (Syntax line cause)) old new = ⊥
WritesOne P (Err (BadTurn position)) old new = ⊥
WritesOne P (Err Output) old new = (text : List ℕ) × P text × AppendsBeginning old new text
WritesOne P (Err Input) old new = ⊥

-- the text of a run from this abstract state, turn by turn
pub record IsTurnText (turns : List ℕ) (c : AbstractState) (text : List ℕ) : Type 0 where
  pub items : List Item
  pub last : AbstractState
  pub trace : IsTrace turns c items last
  pub says : text ≡ ended (run_lines items last)

-- what a script's run with these turns writes
abbrev pub IsRunText : ScriptView → List ℕ → List ℕ → Type 0
IsRunText script turns text = IsTurnText turns (script_abstraction script) text

-- what its run by single steps writes
abbrev pub IsFineText : ScriptView → List ℕ → List ℕ → Type 0
IsFineText script turns text = IsStepText turns (script_world_state script) text

-- the text of a run from u, by turns or by single steps
abbrev pub IsShown : Pace → List ℕ → WorldState → List ℕ → Type 0
IsShown pace.Turns turns u text = IsTurnText turns (abstraction u) text
IsShown pace.Steps turns u text = IsStepText turns u text

-- the same of a script's run
abbrev pub IsTextBy : Pace → ScriptView → List ℕ → List ℕ → Type 0
IsTextBy pace script turns text = IsShown pace turns (script_world_state script) text

-- the bytes read as a script, the list names turns of it, and this is a text that they have
pub record IsScriptRun (IsText : ScriptView → List ℕ → List ℕ
    → Type 0) (bytes list text : List ℕ) : Type 0 where
  pub script : ScriptView
  pub turns : List ℕ
  pub reads : ReadsAs bytes script
  pub listed : list_at (length script.threads) list ≡ Ok turns
  pub says : IsText script turns text

-- the bytes read as a script, and the list's number at this position, from 1, is the first that names no thread of it
pub record IsBadTurn (bytes list : List ℕ) (position : ℕ) : Type 0 where
  pub script : ScriptView
  pub reads : ReadsAs bytes script
  pub faulty : list_at (length script.threads) list ≡ Err position

-- a text, without where it lies in memory
abbrev pub text_in : {A : Type 0} → Result (String A) Fault → Result (List ℕ) Fault
text_in (Ok text) = Ok (string_bytes text)
text_in (Err fault) = Err fault

-- the text of the run, or the refusal that script and list have; a fault of the script comes first
abbrev pub TellsRun : (ScriptView → List ℕ → List ℕ → Type 0) → List ℕ → List ℕ
    → Result (List ℕ) Fault → Type 0
TellsRun IsText bytes list (Ok text) = IsScriptRun IsText bytes list text
TellsRun IsText bytes list (Err Memory) = Unit {0}
TellsRun IsText bytes list (Err (Syntax line cause)) = Faulty bytes line cause
TellsRun IsText bytes list (Err (BadTurn position)) = IsBadTurn bytes list position
TellsRun IsText bytes list (Err Output) = ⊥
TellsRun IsText bytes list (Err Input) = ⊥

-- the text that is to be told was taken, or a beginning of it where the output failed; at any other refusal nothing was
abbrev pub Delivers : {A : Type 0} → (Result (List ℕ) Fault → Type 0) → Result A Fault → Option (List ℕ)
    → Option (List ℕ) → Type 0
Delivers told (Ok x) old new = (text : List ℕ) × told (Ok text) × Appends old new text
Delivers told (Err Memory) old new = new ≡ old
Delivers told (Err (Syntax line cause)) old new = told (Err (Syntax line cause)) × (new ≡ old)
Delivers told (Err (BadTurn position)) old new = told (Err (BadTurn position)) × (new ≡ old)
Delivers told (Err Output) old new = (text : List ℕ) × told (Ok text) × AppendsBeginning old new text
Delivers told (Err Input) old new = told (Err Input) × (new ≡ old)
