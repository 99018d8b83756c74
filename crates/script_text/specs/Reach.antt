-- The draft that a text leads to.
use Rattle.std.specs.Prelude.{ℕ, List, [], Result, Ok, Err}
use Rattle.script_text.specs.declared.parts.draft.Draft as rust
use Rattle.script_text.specs.declared.fault.Fault.{Fault}
use Rattle.script_text.specs.Drafts.{draft_of}
use Rattle.script_text.specs.Grammar.{BeginsWithDraft, Refuses}

-- the draft that all lines of the text lead to, or a refusal that is true of the text
abbrev pub ReachesDraft : Result rust.Draft Fault → List ℕ → Type 0
ReachesDraft (Ok d) bytes = (number : ℕ) × BeginsWithDraft bytes (draft_of d) number []
ReachesDraft (Err f) bytes = Refuses f bytes
