-- The grammar by lines: which text spells which graph, and which line of which text is faulty. All
-- of it is own.
use Rattle.std.specs.Prelude.{ℕ, List, Ok, Err, Result}
use Rattle.text_lines.specs.Grammar.{IsReadAs}
use Rattle.text_lines.specs.declared.fault.LineFault.{LineFault}
use Rattle.owner_text.specs.Drafts.{after_line, Draft, draft_of, new_draft}
use Rattle.owner_text.specs.declared.fault.Cause.{Cause}
use Rattle.owner_text.specs.declared.fault.Cause.TheVariants.{UnfinishedLine}
use Rattle.text_lines.specs.Grammar as by_lines
use Rattle.owner_text.specs.declared.draft.Draft as rust

-- the text is good lines that lead to the graph
abbrev pub ReadsAs : List ℕ → Draft → Type 0
ReadsAs bytes draft = IsReadAs after_line new_draft bytes draft

-- a refusal of a text that is true of it: want of memory, or its first faulty line
abbrev pub Refuses : LineFault Cause → List ℕ → Type 0
Refuses fault bytes = by_lines.Refuses after_line new_draft UnfinishedLine fault bytes

-- the graph that a text spells, or a refusal that is true of it
abbrev pub Answers : Result rust.Draft (LineFault Cause) → List ℕ → Type 0
Answers (Ok d) bytes = ReadsAs bytes (draft_of d)
Answers (Err f) bytes = Refuses f bytes
