-- Refusals, and the lines that programs say them with. All of it is own.
use Rattle.std.specs.Prelude.{ℕ, List, ◌++◌, codes, decimal}
use Rattle.script_text.specs.declared.fault.Cause.{Cause}
use Rattle.script_text.specs.declared.fault.Cause.TheVariants as cause
use Rattle.script_text.specs.declared.fault.Fault.{Fault}
use Rattle.script_text.specs.declared.fault.Fault.TheVariants.{Memory, Syntax, BadTurn, Output}
use Rattle.script_text.specs.declared.fault.Fault.TheVariants.{Input}
use Rattle.text_lines.specs.declared.fault.LineFault.{LineFault}
use Rattle.text_lines.specs.declared.fault.LineFault.TheVariants as lines

-- the refusal of a text, by that of its lines
abbrev pub fault_of : LineFault Cause → Fault
fault_of lines.Memory = Memory
fault_of (lines.Syntax line cause) = Syntax line cause

abbrev pub cause_words : Cause → List ℕ
cause_words cause.UnfinishedLine = codes "unfinished line"
cause_words cause.BadByte = codes "bad byte"
cause_words cause.UnknownStatement = codes "unknown statement"
cause_words cause.WrongNumberOfWords = codes "wrong number of words"
cause_words cause.TooManyThreads = codes "too many threads"
cause_words cause.TooManyStatements = codes "too many statements"
cause_words cause.BadVersion = codes "bad version"
cause_words cause.BadName = codes "bad name"
cause_words cause.BadNumber = codes "bad number"
cause_words cause.BadField = codes "bad field"
cause_words cause.BadCell = codes "bad cell"
cause_words cause.UnknownName = codes "unknown name"
cause_words cause.WrongKindOfName = codes "wrong kind of name"
cause_words cause.NameUsedTwice = codes "name used twice"
cause_words cause.TooManyNames = codes "too many names"

-- the line that tells of a faulty line of a text, and in these words why, with its line feed
abbrev pub faulty_line : ℕ → List ℕ → List ℕ
faulty_line line words = codes "refused 10: line " ++ decimal line ++ codes ": " ++ words ++ codes "\n"

-- the line of a refusal
abbrev pub fault_line : Fault → List ℕ
fault_line Memory = codes "refused 1: memory\n"
fault_line (Syntax line cause) = faulty_line line (cause_words cause)
fault_line (BadTurn position) = codes "refused 11: turn " ++ decimal position ++ codes "\n"
fault_line Output = codes "refused 12: output\n"
fault_line Input = codes "refused 13: input\n"
