-- What is left at the end of a script's run. All of it is own.
use Rattle.std.specs.Prelude.{◌≡◌, ℕ, ◌≤◌, Bool, true, false, ◌≢◌, ◌↔◌, List, None, Ok, Err, Result}
use Rattle.leak_report.specs.Prelude.{AbstractState, census_of, Findings, IsKept}
use Rattle.leak_report.specs.Prelude.{marked, state_in}
use Rattle.script_stepper.specs.Ends.{IsRunOut}
use Rattle.script_text.specs.Beginnings.{script_abstraction}
use Rattle.script_text.specs.Drafts.{ScriptView}
use Rattle.script_text.specs.Grammar.{ended}
use Rattle.script_text.specs.declared.fault.Fault.{Fault}
use Rattle.leak_report.specs.Findings.{AreFound, held_at}
use Rattle.leak_report.specs.Graph.{graph_lines}
use Rattle.leak_report.specs.Holders.{AllCounted}
use Rattle.leak_report.specs.Lines.{all_lines}

-- a path of owners leads to the block from a free cell
abbrev pub IsKeptAt : AbstractState → ℕ → Type 0
IsKeptAt c b = IsKept (held_at c) b

-- the block isn't vacant, and no path leads to it
abbrev pub IsLeaked : AbstractState → ℕ → Type 0
IsLeaked c b = (1 ≤ b) × (b ≤ c.extent.shape.blocks) × (census_of (state_in c) b ≢ None)
    × (IsKeptAt c b → ⊥)

-- some block is leaked, or none
abbrev pub Leaks : Bool → AbstractState → Type 0
Leaks true c = (b : ℕ) × IsLeaked c b
Leaks false c = (b : ℕ) → IsLeaked c b → ⊥

-- just the blocks are marked that are kept
abbrev pub MarksKept : AbstractState → List Bool → Type 0
MarksKept c kept = (b : ℕ) → b ≤ c.extent.shape.blocks → marked kept b ≡ true ↔ IsKeptAt c b

-- the lines of a report, or those of a graph
abbrev pub report_lines : Bool → Findings → AbstractState → List (List ℕ)
report_lines false f c = all_lines f c
report_lines true f c = graph_lines f c

-- what cells hold on a block, each cell once, is just what is counted there
abbrev pub IsCountedAt : AbstractState → Type 0
IsCountedAt c = AllCounted c.extent.shape.blocks (state_in c) (held_at c)

-- the text tells what is left at a scene, or draws it, and whether something is leaked
pub record TellsOf (c : AbstractState) (draws leaks : Bool) (text : List ℕ) : Type 0 where
  pub findings : Findings
  pub found : AreFound c findings
  pub counted : IsCountedAt c
  pub says : text ≡ ended (report_lines draws findings c)
  pub leaks_is : Leaks leaks c

-- whether something is leaked, where that was answered
abbrev pub AnswersLeaks : Result Bool Fault → Bool → Type 0
AnswersLeaks (Ok answer) leaks = answer ≡ leaks
AnswersLeaks (Err fault) leaks = Unit {0}

-- a script's run with these turns comes to this end, and the text tells what is left there, or draws it
pub record IsLeftText (draws : Bool) (answer : Result Bool Fault) (script : ScriptView) (turns text : List ℕ)
    : Type 0 where
  pub last : AbstractState
  pub runs : IsRunOut turns (script_abstraction script) last
  pub leaks : Bool
  pub tells : TellsOf last draws leaks text
  pub answers : AnswersLeaks answer leaks
