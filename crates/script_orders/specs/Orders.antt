-- What is told of a script's orders. All of it is own.
use Rattle.std.specs.Prelude.{◌≡◌, ◌≤◌, ℕ, suc, ◌++◌, Bool, true, false, cond, Contains, List, [], ◌∷◌, length, codes}
use Rattle.std.specs.Prelude.{decimal, Option, Some, None, Result, Ok, Err}
use Rattle.script_text.specs.declared.fault.Fault.{Fault}
use Rattle.script_text.specs.Grammar.{Refuses}
use Rattle.script_orders.specs.declared.orders.Answer.{Answer}
use Rattle.script_orders.specs.declared.orders.Answer.TheVariants.{Told, Found, TooMany, CannotTell}
use Rattle.script_orders.specs.Differences.{IsDifferLine}
use Rattle.script_orders.specs.Coverage.{IsComplete}
pub use Rattle.script_orders.specs.Outcomes.{AllDiffer, AreOutcomes, BeginsAlone, IsAdded, IsOutcome, Outcome, texts_of}
use Rattle.script_orders.specs.Sorting.{lines_in}
use Rattle.script_orders.specs.Tellings.{CanTell}

-- a list behind a word
abbrev pub list_after : List ℕ → List ℕ
list_after [] = []
list_after (b ∷ bs) = 32 ∷ b ∷ bs

-- the line above an outcome
abbrev pub head_line : ℕ → List ℕ → List ℕ
head_line number list = codes "outcome " ++ decimal number ++ codes " turns" ++ list_after list ++ 10 ∷ []

-- an outcome with the line above it
abbrev pub told_one : ℕ → Outcome → List ℕ
told_one number o = head_line number o.1 ++ o.0

-- outcomes, numbered from here
abbrev pub told_from : ℕ → List Outcome → List ℕ
told_from number [] = []
told_from number (o ∷ os) = told_one number o ++ told_from (suc number) os

-- how many outcomes there are, and how many states were seen
abbrev pub counts_line : ℕ → ℕ → List ℕ
counts_line outcomes states =
    codes "outcomes " ++ decimal outcomes ++ codes " states " ++ decimal states ++ 10 ∷ []

-- the text tells how many there are, and then comes a line that says where they differ, or none
pub record Closes (outcomes : List Outcome) (states : ℕ) (text : List ℕ) : Type 0 where
  pub differ : List ℕ
  pub names : IsDifferLine differ
  pub says : text ≡ counts_line (length outcomes) states ++ differ

-- the text tells these outcomes, and then closes
pub record TellsAll (outcomes : List Outcome) (states : ℕ) (text : List ℕ) : Type 0 where
  pub closing : List ℕ
  pub closes : Closes outcomes states closing
  pub says : text ≡ told_from 1 outcomes ++ closing

-- what the last line says: that none is missing, or that they were found by a search whose completeness is tested
abbrev pub coverage_line : Bool → List ℕ
coverage_line is_complete = cond is_complete (codes "complete\n") (codes "searched\n")

-- the text tells these outcomes of the script, and whether none is missing; where it says so, none is
pub record TellsOutcomes (script : List ℕ) (outcomes : List Outcome) (states : ℕ) (text : List ℕ) : Type 0 where
  pub told : List ℕ
  pub tells : TellsAll outcomes states told
  pub is_complete : Bool
  pub none_missing : is_complete ≡ true → IsComplete script outcomes
  pub says : text ≡ told ++ coverage_line is_complete

-- the text tells outcomes of the script, each once, and first that of the run that goes by itself; and no fewer states
pub record IsOrdersText (script text : List ℕ) : Type 0 where
  pub outcomes : List Outcome
  pub each : AreOutcomes script outcomes
  pub first : BeginsAlone outcomes
  pub once : AllDiffer (texts_of outcomes)
  pub states : ℕ
  pub seen : length outcomes ≤ states
  pub tells : TellsOutcomes script outcomes states text

-- the run with this list of turns tells the line
pub record TellsLine (script line list : List ℕ) : Type 0 where
  pub outcome : List ℕ
  pub is : IsOutcome script list outcome
  pub tells : Contains (lines_in outcome) line

-- a list of turns, or `turns` where there are none
abbrev pub found_list : List ℕ → List ℕ
found_list [] = codes "turns"
found_list (b ∷ bs) = b ∷ bs

-- the text is such a list
pub record IsFoundText (script line text : List ℕ) : Type 0 where
  pub list : List ℕ
  pub tells : TellsLine script line list
  pub says : text ≡ found_list list ++ 10 ∷ []

-- none of these outcomes tells the line
abbrev pub NoneTells : List Outcome → List ℕ → Type 0
NoneTells outcomes line = (text : List ℕ) → Contains (texts_of outcomes) text → Contains (lines_in text) line → ⊥

-- the text tells that no outcome was found which tells the line, and whether none is missing; where it says so, no list
-- of turns tells it
pub record IsNeverText (script line text : List ℕ) : Type 0 where
  pub is_complete : Bool
  pub none : is_complete ≡ true → (list : List ℕ) → TellsLine script line list → ⊥
  pub says : text ≡ codes "never\n" ++ coverage_line is_complete

-- what is told where a line is looked for that the script can tell
abbrev pub IsSoughtText : List ℕ → Answer → List ℕ → List ℕ → Type 0
IsSoughtText line Told script text = IsNeverText script line text
IsSoughtText line Found script text = IsFoundText script line text
IsSoughtText line TooMany script text = text ≡ []
IsSoughtText line CannotTell script text = ⊥

-- what is told where all outcomes are asked for, or those that tell a line: nothing where there are too many states, or
-- else just where the script can't tell the line
abbrev pub IsAnswerText : Option (List ℕ) → Answer → List ℕ → List ℕ → Type 0
IsAnswerText None Told script text = IsOrdersText script text
IsAnswerText None Found script text = ⊥
IsAnswerText None TooMany script text = text ≡ []
IsAnswerText None CannotTell script text = ⊥
IsAnswerText (Some line) Told script text = CanTell script line true × IsSoughtText line Told script text
IsAnswerText (Some line) Found script text = CanTell script line true × IsSoughtText line Found script text
IsAnswerText (Some line) TooMany script text = text ≡ []
IsAnswerText (Some line) CannotTell script text = CanTell script line false × (text ≡ [])

-- the same of what came of the query, which a failed output doesn't tell
abbrev pub IsAnswered : Option (List ℕ) → Result Answer Fault → List ℕ → List ℕ → Type 0
IsAnswered line (Ok answer) script text = IsAnswerText line answer script text
IsAnswered line (Err fault) script text = (answer : Answer) × IsAnswerText line answer script text

-- what is told of a script, or the refusal that it has
abbrev pub TellsOrders : Option (List ℕ) → Result Answer Fault → List ℕ → Result (List ℕ) Fault → Type 0
TellsOrders line answer script (Ok text) = IsAnswered line answer script text
TellsOrders line answer script (Err fault) = Refuses fault script
