-- How runs of scripts end. All of it is own.
use Rattle.std.specs.Prelude.{◌≡◌, ℕ, List, length, Ok, Err}
use Rattle.script_text.specs.declared.fault.Fault.{Fault}
use Rattle.script_text.specs.Beginnings.{script_abstraction}
use Rattle.script_text.specs.Drafts.{ScriptView}
use Rattle.script_text.specs.Grammar.{ReadsAs}
use Rattle.script_text.specs.Traces.{IsTrace, Item}
use Rattle.script_stepper.specs.Runs.{TellsRun}
use Rattle.script_stepper.specs.TurnLists.{list_at}
use Rattle.step_threads.specs.AbstractStates.{AbstractState}

-- a run with these turns leads from an abstract state to another
abbrev pub IsRunOut : List ℕ → AbstractState → AbstractState → Type 0
IsRunOut turns c last = (items : List Item) × IsTrace turns c items last

-- the bytes read as a script, the list names turns of it, and so its run with these ends
pub record IsRunEnd (bytes list : List ℕ) (last : AbstractState) : Type 0 where
  pub script : ScriptView
  pub turns : List ℕ
  pub reads : ReadsAs bytes script
  pub listed : list_at (length script.threads) list ≡ Ok turns
  pub runs : IsRunOut turns (script_abstraction script) last

-- the refusal that script and list have; a fault of the script comes first
abbrev pub IsRefused : List ℕ → List ℕ → Fault → Type 0
IsRefused bytes list fault = TellsRun (λ script turns text. ⊥) bytes list (Err fault)
