-- The outcomes of a script. All of it is own.
use Rattle.std.specs.Prelude.{◌≡◌, ◌≢◌, ◌⊎◌, ℕ, ◌++◌, All, List, [], ◌∷◌, map}
use Rattle.script_stepper.specs.Runs.{IsRunText, IsScriptRun}
use Rattle.script_orders.specs.Sorting.{by_threads}

-- the text is an outcome of the script: what its run with this list of turns tells, sorted by threads
pub record IsOutcome (script list text : List ℕ) : Type 0 where
  pub run : List ℕ
  pub runs : IsScriptRun IsRunText script list run
  pub sorted : text ≡ by_threads run

-- the text of an outcome, and a list of turns that gives it
abbrev pub Outcome : Type 0
Outcome = List ℕ × List ℕ

abbrev pub AreOutcomes : List ℕ → List Outcome → Type 0
AreOutcomes script outcomes = All (λ (o : Outcome). IsOutcome script o.1 o.0) outcomes

-- no text stands twice
abbrev pub AllDiffer : List (List ℕ) → Type 0
AllDiffer [] = Unit {0}
AllDiffer (text ∷ texts) = All (λ other. text ≢ other) texts × AllDiffer texts

-- the first of them is that of the run that goes by itself, whose list is empty
abbrev pub BeginsAlone : List Outcome → Type 0
BeginsAlone [] = ⊥
BeginsAlone (o ∷ os) = o.1 ≡ []

-- the outcome was there by its text, or comes behind the others
abbrev pub IsAdded : Outcome → List Outcome → List Outcome → Type 0
IsAdded o old new = (new ≡ old) ⊎ (new ≡ old ++ o ∷ [])

abbrev pub texts_of : List Outcome → List (List ℕ)
texts_of outcomes = map (λ (o : Outcome). o.0) outcomes
