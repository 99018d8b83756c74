-- The grammar by lines: which text spells which script, and which line of which text is faulty.
use Rattle.std.specs.Prelude.{◌≡◌, ℕ, ◌⊎◌, List, [], Result, Ok, Err}
use Rattle.text_lines.specs.Grammar as by_lines
use Rattle.text_lines.specs.Grammar.{BeginsWith, IsFaulty}
pub use Rattle.text_lines.specs.Lines.{HasNoFeed, IsLineCut, ended, is_feed}
use Rattle.script_text.specs.declared.fault.Cause.{Cause}
use Rattle.script_text.specs.declared.fault.Cause.TheVariants.{UnfinishedLine}
use Rattle.script_text.specs.declared.fault.Fault.{Fault}
use Rattle.script_text.specs.declared.fault.Fault.TheVariants as fault
use Rattle.script_text.specs.Drafts.{Draft, ScriptView, new_draft, script_of, after_line}

-- each line is good after those before it, and together they lead from one draft to the other
abbrev pub Leads : Draft → List (List ℕ) → Draft → Type 0
Leads d lines e = by_lines.Leads after_line d lines e

-- the text begins with good lines that lead to the draft; the rest follows, its first line with
-- this number
abbrev pub BeginsWithDraft : List ℕ → Draft → ℕ → List ℕ → Type 0
BeginsWithDraft bytes draft number rest = BeginsWith after_line new_draft bytes draft number rest

-- the text is good lines that lead to the script
pub record ReadsAs (bytes : List ℕ) (script : ScriptView) : Type 0 where
  pub draft : Draft
  pub number : ℕ
  pub begins : BeginsWithDraft bytes draft number []
  pub says : script ≡ script_of draft

-- the line with this number is the first faulty one of the text
abbrev pub Faulty : List ℕ → ℕ → Cause → Type 0
Faulty bytes number cause = IsFaulty after_line new_draft UnfinishedLine bytes number cause

-- a refusal of a text that is true of it: want of memory, or its first faulty line
abbrev pub Refuses : Fault → List ℕ → Type 0
Refuses fault.Memory bytes = Unit {0}
Refuses (fault.Syntax line cause) bytes = Faulty bytes line cause
Refuses (fault.BadTurn position) bytes = ⊥
Refuses fault.Output bytes = ⊥
Refuses fault.Input bytes = ⊥

-- an answer to a text that is true of it
abbrev pub Answers : Result ScriptView Fault → List ℕ → Type 0
Answers (Ok script) bytes = ReadsAs bytes script
Answers (Err f) bytes = Refuses f bytes

-- want of memory aside, the answer is this one
abbrev pub IsUnlessMemory : {A : Type 0} → Result A Fault → Result A Fault → Type 0
IsUnlessMemory given wanted = (given ≡ wanted) ⊎ (given ≡ Err fault.Memory)
