-- What commands write, of the texts that they are given (own).
use Rattle.std.specs.Prelude.{◌≡◌, ◌≢◌, ◌⊎◌, ℕ, Bool, true, false, List, [], length, Option, Some}
use Rattle.std.specs.Prelude.{None, Result, Ok, Err}
use Rattle.leak_report.specs.Left.{IsLeftText}
use Rattle.clap.specs.Words.{IsAmong, Text}
use Rattle.clap.specs.declared.error.kind.ErrorKind.{ErrorKind}
use Rattle.clap.specs.declared.error.kind.ErrorKind.TheVariants as kind
use Rattle.std.specs.Io.KnownBytes.{Appends}
use Rattle.script_stepper.specs.Sinks.{AppendsBeginning}
use Rattle.owner_text.specs.Answers.{IsOwnersText}
use Rattle.owner_text.specs.Faults.{cause_words}
use Rattle.owner_text.specs.Grammar as graph
use Rattle.text_lines.specs.declared.fault.LineFault.TheVariants as line_fault
use Rattle.script_text.specs.Faults.{fault_line, faulty_line}
use Rattle.script_runner.specs.Telling.{TellsReport}
use Rattle.script_stepper.specs.Runs.{Delivers, IsFineText, IsRunText, TellsRun, Writes, is_output}
use Rattle.script_text.specs.declared.fault.Fault.{Fault}
use Rattle.script_text.specs.declared.fault.Fault.TheVariants.{Memory, Syntax, BadTurn, Output}
use Rattle.script_text.specs.declared.fault.Fault.TheVariants.{Input}
use Rattle.script_text.specs.Drafts.{ScriptView}
use Rattle.script_text.specs.Grammar.{ReadsAs, Refuses}
use Rattle.script_text.specs.Scripts.{converted, statement_count}
use Rattle.script_text.specs.Canonical.{canonical}
use Rattle.sptr.specs.CommandLine.{AsksFor, faults_of, names_list, names_text, turns_given}
use Rattle.script_picture.specs.Pictures.{IsPictureText}
use Rattle.script_picture.specs.declared.part.Part.{Part}
use Rattle.script_orders.specs.Orders.{TellsOrders}
use Rattle.sptr.specs.Lines.{limit_line, no_line, ok_line, picture_line}
use Rattle.sptr.specs.OutcomePages.{TellsPage}
use Rattle.sptr.specs.Outcomes.{FindsAsAsked, exit_status, is_found, line_found, orders_answer}
use Rattle.sptr.specs.Sources.{OfBytes, OfList, known_unless}
use Rattle.sptr.specs.declared.answers.Outcome.{Outcome}
use Rattle.sptr.specs.declared.answers.Outcome.TheVariants.{Done, Found, Leaks, NoGraph, NoOrders}
use Rattle.sptr.specs.declared.answers.Outcome.TheVariants.{NoLine, NoPicture}
use Rattle.sptr.specs.declared.command.Asked.{Asked}
use Rattle.sptr.specs.declared.command.Asked.TheVariants.{Check, Convert, Draw, Fine, Left, Orders}
use Rattle.sptr.specs.declared.command.Asked.TheVariants.{OrdersPage, Owners, Run, Step}

-- the line that counts the script which the text reads as, or the refusal that the text has
abbrev pub CountsScript : List ℕ → Result (List ℕ) Fault → Type 0
CountsScript bytes (Ok text) = (script : ScriptView) × ReadsAs bytes script
    × (text ≡ ok_line (length script.threads) (statement_count script.threads))
CountsScript bytes (Err fault) = Refuses fault bytes

-- the canonical text in version 2 of the script which the text reads as, or the refusal that the
-- text has
abbrev pub Converts : List ℕ → Result (List ℕ) Fault → Type 0
Converts bytes (Ok text) =
    (script : ScriptView) × ReadsAs bytes script × (text ≡ canonical (converted script))
    × ReadsAs text (converted script)
Converts bytes (Err fault) = Refuses fault bytes

-- the same where the input may have failed
abbrev pub UnlessInput : (Result (List ℕ) Fault → Type 0) → Result (List ℕ) Fault → Type 0
UnlessInput told (Ok text) = told (Ok text)
UnlessInput told (Err Memory) = told (Err Memory)
UnlessInput told (Err (Syntax line cause)) = told (Err (Syntax line cause))
UnlessInput told (Err (BadTurn position)) = told (Err (BadTurn position))
UnlessInput told (Err Output) = told (Err Output)
UnlessInput told (Err Input) = Unit {0}

-- nothing is written
abbrev pub TellsNone : Result Bool Fault → Result (List ℕ) Fault → Type 0
TellsNone answer (Ok text) = (answer ≡ Ok true) × (text ≡ [])
TellsNone answer (Err fault) = ⊥

-- the picture of a part of a run, or nothing where it has too many acts, begins behind the last one
-- or is no part
abbrev pub TellsPart : Bool → Bool → Option Part → Result Bool Fault → List ℕ → List ℕ
    → Result (List ℕ) Fault → Type 0
TellsPart is_fine is_page (Some part) answer bytes list =
    TellsRun (IsPictureText is_fine is_page part answer) bytes list
TellsPart is_fine is_page None answer bytes list = TellsNone answer

-- what is told of a script's orders, or nothing where no number says how many states are seen
abbrev pub TellsMost : Bool → Option ℕ → Result Outcome Fault → List ℕ → List ℕ
    → Result (List ℕ) Fault → Type 0
TellsMost finds (Some most) answer bytes line =
    TellsOrders (line_found finds line) (orders_answer answer) bytes
TellsMost finds None answer bytes line = TellsNone (is_found answer)

-- the page of a script's outcomes, or nothing where no number says how many states are seen
abbrev pub TellsPageOf : Option ℕ → Result Bool Fault → List ℕ → Result (List ℕ) Fault → Type 0
TellsPageOf (Some most) answer bytes = TellsPage answer bytes
TellsPageOf None answer bytes = TellsNone answer

-- what is told of the graph that the bytes spell, or nothing where a line of theirs is faulty; and
-- what comes of it
abbrev pub IsGraphText : Bool → List ℕ → Result Outcome Fault → List ℕ → Type 0
IsGraphText draws bytes (Ok Done) text = IsOwnersText draws bytes false text
IsGraphText draws bytes (Ok Leaks) text = IsOwnersText draws bytes true text
IsGraphText draws bytes (Ok NoPicture) text = ⊥
IsGraphText draws bytes (Ok (NoGraph line cause)) text =
    graph.Refuses (line_fault.Syntax line cause) bytes × (text ≡ [])
IsGraphText draws bytes (Ok Found) text = ⊥
IsGraphText draws bytes (Ok NoOrders) text = ⊥
IsGraphText draws bytes (Ok NoLine) text = ⊥
IsGraphText draws bytes (Err fault) text = (leaks : Bool) × IsOwnersText draws bytes leaks text

abbrev pub TellsGraph : Bool → List ℕ → Result Outcome Fault → Result (List ℕ) Fault → Type 0
TellsGraph draws bytes answer (Ok text) = IsGraphText draws bytes answer text
TellsGraph draws bytes answer (Err Memory) = Unit {0}
TellsGraph draws bytes answer (Err (Syntax line cause)) = ⊥
TellsGraph draws bytes answer (Err (BadTurn position)) = ⊥
TellsGraph draws bytes answer (Err Output) = ⊥
TellsGraph draws bytes answer (Err Input) = ⊥

-- what a command answers to a list of turns and the bytes of a script, or of a graph
abbrev pub AnswersCommand : Asked → List ℕ → Result Outcome Fault → List ℕ → Result (List ℕ) Fault
    → Type 0
AnswersCommand Check list answer bytes = UnlessInput (CountsScript bytes)
AnswersCommand Convert list answer bytes = UnlessInput (Converts bytes)
AnswersCommand Step list answer bytes = UnlessInput (TellsRun IsRunText bytes list)
AnswersCommand Fine list answer bytes = UnlessInput (TellsRun IsFineText bytes list)
AnswersCommand Run list answer bytes = UnlessInput (TellsReport bytes)
AnswersCommand (Left draws) list answer bytes =
    UnlessInput (TellsRun (IsLeftText draws (is_found answer)) bytes list)
AnswersCommand (Draw is_fine is_page part) list answer bytes =
    UnlessInput (TellsPart is_fine is_page part (is_found answer) bytes list)
AnswersCommand (Owners draws) list answer bytes = UnlessInput (TellsGraph draws bytes answer)
AnswersCommand (Orders finds most) list answer bytes =
    UnlessInput (TellsMost finds most answer bytes list)
AnswersCommand (OrdersPage most) list answer bytes =
    UnlessInput (TellsPageOf most (is_found answer) bytes)

-- the exit status of a command that tells of no script
abbrev pub status_of : {A : Type 0} → Result A Fault → ℕ
status_of (Ok done) = 0
status_of (Err fault) = 1

-- what a sink took, where that is known, and whether it has failed, before and after
pub record Report : Type 0 where
  pub old : Option (List ℕ)
  pub had_failed : Bool
  pub new : Option (List ℕ)
  pub has_failed : Bool

abbrev pub report : Option (List ℕ) → Bool → Option (List ℕ) → Bool → Report
report old had_failed new has_failed = record {
  old = old;
  had_failed = had_failed;
  new = new;
  has_failed = has_failed;
}

-- nothing came in
abbrev pub IsUntouched : Report → Type 0
IsUntouched r = (r.new ≡ r.old) × (r.has_failed ≡ r.had_failed)

-- the text did, or a beginning of it where a write failed
abbrev pub IsTaken : Bool → List ℕ → Option (List ℕ) → Option (List ℕ) → Type 0
IsTaken true text old new = AppendsBeginning old new text
IsTaken false text old new = Appends old new text

-- a line did, or a beginning of it, or nothing where it had failed before
pub record IsReported (line : List ℕ) (r : Report) : Type 0 where
  pub takes : IsTaken r.has_failed line r.old r.new
  pub nothing : r.had_failed ≡ true → IsUntouched r

-- the line of a refusal, and else nothing
abbrev pub Reports : {A : Type 0} → Result A Fault → Report → Type 0
Reports (Ok done) r = IsUntouched r
Reports (Err fault) r = IsReported (fault_line fault) r

-- the same where a command was carried out, which may refuse to draw
abbrev pub ReportsOutcome : Result Outcome Fault → Report → Type 0
ReportsOutcome (Ok Done) r = IsUntouched r
ReportsOutcome (Ok Leaks) r = IsUntouched r
ReportsOutcome (Ok NoPicture) r = IsReported picture_line r
ReportsOutcome (Ok (NoGraph line cause)) r = IsReported (faulty_line line (cause_words cause)) r
ReportsOutcome (Ok Found) r = IsUntouched r
ReportsOutcome (Ok NoOrders) r = IsReported limit_line r
ReportsOutcome (Ok NoLine) r = IsReported no_line r
ReportsOutcome (Err fault) r = IsReported (fault_line fault) r

-- a command's answer to this list of turns and these bytes of a script or a graph, where it is known
-- which they are, and else to some, went to the output, and the line of a refusal to the faults
pub record IsAnswered (asked : Asked) (list input : Option (List ℕ))
    (status : ℕ) (old new : Option (List ℕ)) (has_failed : Bool) (faults : Report) : Type 0 where
  pub answer : Result Outcome Fault
  pub delivers : OfList list (λ list. OfBytes input (λ bytes.
      Delivers (AnswersCommand asked list answer bytes) answer old new))
  pub finds : FindsAsAsked asked answer
  pub says : status ≡ exit_status answer
  pub fails : has_failed ≡ is_output answer
  pub reports : ReportsOutcome answer faults

-- a text of `clap` went to the output, but for want of memory and a failed output, whose line went
-- to the faults
pub record IsShownText (status : ℕ) (old new : Option (List ℕ)) (has_failed : Bool)
    (faults : Report) : Type 0 where
  pub text : List ℕ
  pub answer : Result Unit Fault
  pub writes : Writes text answer old new
  pub says : status ≡ status_of answer
  pub fails : has_failed ≡ is_output answer
  pub reports : Reports answer faults

-- nothing went to the output
abbrev pub IsSilent : Option (List ℕ) → Option (List ℕ) → Bool → Type 0
IsSilent old new has_failed = (new ≡ old) × (has_failed ≡ false)

-- nothing went to the output, and the status is that of a fault of the words, or of want of memory,
-- whose line went to the faults
abbrev pub IsMistaken : ℕ → Option (List ℕ) → Option (List ℕ) → Bool → Report → Type 0
IsMistaken status old new has_failed faults =
    ((status ≡ 2) ⊎ ((status ≡ 1) × IsReported (fault_line Memory) faults))
    × IsSilent old new has_failed

-- `clap` gives no command for a reason of this kind: help and the version go to the output; want of
-- memory and faults of the words do not
pub record IsTurnedAway (reason : ErrorKind)
    (status : ℕ) (old new : Option (List ℕ)) (has_failed : Bool) (faults : Report) : Type 0 where
  pub help : reason ≡ kind.DisplayHelp → IsShownText status old new has_failed faults
  pub version : reason ≡ kind.DisplayVersion → IsShownText status old new has_failed faults
  pub memory : reason ≡ kind.OutOfMemory
      → (status ≡ 1) × IsSilent old new has_failed × IsReported (fault_line Memory) faults
  pub mistake : reason ≢ kind.DisplayHelp → reason ≢ kind.DisplayVersion → reason ≢ kind.OutOfMemory
      → (status ≡ 2) × IsSilent old new has_failed

-- the kind is one that the words' faults have, or want of memory
abbrev pub IsReason : List Text → ErrorKind → Type 0
IsReason words reason = (reason ≡ kind.OutOfMemory) ⊎ IsAmong reason (faults_of words)

-- the words have no fault, and what they ask for is answered, of the files that they name; or they
-- are turned away for a reason that they give
abbrev pub Serves : List Text → Option (List ℕ) → ℕ → Option (List ℕ) → Option (List ℕ)
    → Bool → Report → Type 0
Serves words input status old new has_failed faults =
    ((asked : Asked) × AsksFor words asked × (faults_of words ≡ [])
    × IsAnswered asked (known_unless (names_list words) (Some (turns_given words)))
    (known_unless (names_text words) input) status old new has_failed faults)
    ⊎ ((reason : ErrorKind) × IsReason words reason
    × IsTurnedAway reason status old new has_failed faults)
