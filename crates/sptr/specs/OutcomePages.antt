-- What stands on a page of outcomes. All of it is own.
use Rattle.std.specs.Prelude.{◌≡◌, ℕ, suc, ◌++◌, Bool, true, false, List, [], ◌∷◌, Result, Ok, Err}
use Rattle.run_picture.specs.Pages.{lines_element, page_of, with_scripts}
use Rattle.script_orders.specs.Orders.{AllDiffer, AreOutcomes, Closes, Outcome, texts_of, told_one}
use Rattle.script_picture.specs.Pictures.{IsLinesText, first_acts}
use Rattle.script_stepper.specs.Runs.{IsScriptRun}
use Rattle.script_text.specs.declared.fault.Fault.{Fault}
use Rattle.script_text.specs.Grammar.{Refuses}

-- an outcome's lines as `orders` tells them in one element, and in another the lines of a run
abbrev pub outcome_part : List ℕ → List ℕ → List ℕ
outcome_part told run = lines_element told ++ lines_element run

-- a text goes on with an outcome of this number and the lines of the script's run with its turns
abbrev pub AddsOne : List ℕ → ℕ → Outcome → List ℕ → List ℕ → Type 0
AddsOne script number o old new =
    (run : List ℕ) × IsScriptRun (IsLinesText first_acts) script o.1 run
    × (new ≡ old ++ outcome_part (told_one number o) run)

-- outcomes, numbered from here, each with the lines of the script's run with its turns
abbrev pub ShowsFrom : List ℕ → ℕ → List Outcome → List ℕ → Type 0
ShowsFrom script number [] shown = shown ≡ []
ShowsFrom script number (o ∷ os) shown =
    (run : List ℕ) × (rest : List ℕ) × IsScriptRun (IsLinesText first_acts) script o.1 run
    × ShowsFrom script (suc number) os rest
    × (shown ≡ outcome_part (told_one number o) run ++ rest)

-- a text goes on with all of them
abbrev pub ShowsAll : List ℕ → List Outcome → List ℕ → List ℕ → Type 0
ShowsAll script outcomes old new =
    (shown : List ℕ) × ShowsFrom script 1 outcomes shown × (new ≡ old ++ shown)

-- and then with how many there are, and with the scripts
abbrev pub Ends : List Outcome → ℕ → List ℕ → List ℕ → Type 0
Ends outcomes states old new = (closing : List ℕ) × Closes outcomes states closing
    × (new ≡ with_scripts (old ++ lines_element closing))

-- the page shows these outcomes of a script, and how many they are
pub record IsPageOf (script : List ℕ) (outcomes : List Outcome) (states : ℕ) (text : List ℕ) : Type 0 where
  pub shown : List ℕ
  pub shows : ShowsFrom script 1 outcomes shown
  pub closing : List ℕ
  pub closes : Closes outcomes states closing
  pub says : text ≡ page_of (shown ++ lines_element closing)

-- the page shows outcomes of the script, each once
pub record IsOrdersPage (script text : List ℕ) : Type 0 where
  pub outcomes : List Outcome
  pub each : AreOutcomes script outcomes
  pub once : AllDiffer (texts_of outcomes)
  pub states : ℕ
  pub shows : IsPageOf script outcomes states text

-- nothing is written where there are too many states
abbrev pub IsPageText : Bool → List ℕ → List ℕ → Type 0
IsPageText true script text = text ≡ []
IsPageText false script text = IsOrdersPage script text

-- the same of what was answered, which a failed output doesn't tell
abbrev pub IsPageAnswered : Result Bool Fault → List ℕ → List ℕ → Type 0
IsPageAnswered (Ok none) script text = IsPageText none script text
IsPageAnswered (Err fault) script text = (none : Bool) × IsPageText none script text

-- what is written of a script, or the refusal that it has
abbrev pub TellsPage : Result Bool Fault → List ℕ → Result (List ℕ) Fault → Type 0
TellsPage answer script (Ok text) = IsPageAnswered answer script text
TellsPage answer script (Err fault) = Refuses fault script
