-- Canonical text: single spaces, numbers without leading zeros, and no line that is skipped.
use Rattle.std.specs.Prelude.{ℕ, ◌++◌, true, false, List, [], ◌∷◌, map, codes, decimal}
use Rattle.std.specs.List.{flat_map, join_with_byte}
use Rattle.step_threads.specs.declared.programs.call.Call.{Call}
use Rattle.step_threads.specs.declared.programs.call.Call.TheVariants as call
use Rattle.step_table.specs.AtomicSteps.{field_number}
use Rattle.script_text.specs.declared.line.Line.{Line}
use Rattle.script_text.specs.declared.line.Line.TheVariants as line
use Rattle.script_text.specs.declared.line.Word.{Word}
use Rattle.script_text.specs.declared.line.Word.TheVariants as word
use Rattle.script_text.specs.declared.parts.version.Version.{Version}
use Rattle.script_text.specs.declared.parts.version.Version.TheVariants.{One, Two}
use Rattle.script_text.specs.Names.{NameList, name_text}
use Rattle.script_text.specs.Cells.{cell_text}
use Rattle.script_text.specs.Drafts.{ScriptView, Section}
use Rattle.script_text.specs.Grammar.{ended}
pub use Rattle.text_lines.specs.Lines.{AddsLines}

-- the words of a statement; no text asks for a shelve or an unshelve, so that no script has one
abbrev pub call_words : NameList → Call → List (List ℕ)
call_words names (call.Make target fields) =
    codes "make" ∷ name_text names target ∷ map decimal fields
call_words names (call.MakeThis target fields) =
    codes "makethis" ∷ name_text names target ∷ map decimal fields
call_words names (call.Null target) = codes "null" ∷ name_text names target ∷ []
call_words names (call.Empty target) = codes "empty" ∷ name_text names target ∷ []
call_words names (call.Reset name) = codes "reset" ∷ name_text names name ∷ []
call_words names (call.Copy target source) =
    codes "copy" ∷ name_text names target ∷ name_text names source ∷ []
call_words names (call.Move target source) =
    codes "move" ∷ name_text names target ∷ name_text names source ∷ []
call_words names (call.Alias target source of field) =
    codes "alias" ∷ name_text names target ∷ name_text names source ∷ name_text names of ∷ decimal
    (field_number field) ∷ []
call_words names (call.AliasNull target source) =
    codes "alias" ∷ name_text names target ∷ name_text names source ∷ codes "null" ∷ []
call_words names (call.This target source) =
    codes "this" ∷ name_text names target ∷ name_text names source ∷ []
call_words names (call.WeakThis target source) =
    codes "wthis" ∷ name_text names target ∷ name_text names source ∷ []
call_words names (call.Read name) = codes "read" ∷ name_text names name ∷ []
call_words names (call.Place name) = codes "place" ∷ name_text names name ∷ []
call_words names (call.Same first second) =
    codes "same" ∷ name_text names first ∷ name_text names second ∷ []
call_words names (call.Before first second) =
    codes "before" ∷ name_text names first ∷ name_text names second ∷ []
call_words names (call.Store cell source) =
    codes "store" ∷ cell_text names cell ∷ name_text names source ∷ []
call_words names (call.Exchange cell name) =
    codes "exchange" ∷ cell_text names cell ∷ name_text names name ∷ []
call_words names (call.Load target cell) =
    codes "load" ∷ name_text names target ∷ cell_text names cell ∷ []
call_words names (call.Compare cell expected desired false) =
    codes "compare" ∷ cell_text names cell ∷ name_text names expected ∷ name_text names desired ∷ []
call_words names (call.Compare cell expected desired true) =
    codes "compare_weak" ∷ cell_text names cell ∷ name_text names expected ∷ name_text names desired
    ∷ []
call_words names (call.Count name) = codes "count" ∷ name_text names name ∷ []
call_words names (call.Weak target source) =
    codes "weak" ∷ name_text names target ∷ name_text names source ∷ []
call_words names (call.WeakCopy target source) =
    codes "wcopy" ∷ name_text names target ∷ name_text names source ∷ []
call_words names (call.WeakEmpty target) = codes "wempty" ∷ name_text names target ∷ []
call_words names (call.WeakReset name) = codes "wreset" ∷ name_text names name ∷ []
call_words names (call.Lock target source) =
    codes "lock" ∷ name_text names target ∷ name_text names source ∷ []
call_words names (call.Upgrade target source) =
    codes "upgrade" ∷ name_text names target ∷ name_text names source ∷ []
call_words names (call.WeakCount name) = codes "wcount" ∷ name_text names name ∷ []
call_words names (call.Expired name) = codes "expired" ∷ name_text names name ∷ []
call_words names (call.Holds cell name) =
    codes "holds" ∷ cell_text names cell ∷ name_text names name ∷ []
call_words names (call.Shelve count) = codes "shelve" ∷ decimal count ∷ []
call_words names (call.Unshelve block) = codes "unshelve" ∷ decimal block.0 ∷ []

-- the same by the shape of the line
abbrev pub line_words : NameList → Line → List (List ℕ)
line_words names (line.One word name) = word.now ∷ name_text names name ∷ []
line_words names (line.Two word first second) =
    word.now ∷ name_text names first ∷ name_text names second ∷ []
line_words names (line.Fields word name fields) =
    word.now ∷ name_text names name ∷ map decimal fields
line_words names (line.Alias target source of field) =
    codes "alias" ∷ name_text names target ∷ name_text names source ∷ name_text names of ∷ decimal
    (field_number field) ∷ []
line_words names (line.AliasNull target source) =
    codes "alias" ∷ name_text names target ∷ name_text names source ∷ codes "null" ∷ []
line_words names (line.Cell word cell name) =
    word.now ∷ cell_text names cell ∷ name_text names name ∷ []
line_words names (line.Load target cell) =
    codes "load" ∷ name_text names target ∷ cell_text names cell ∷ []
line_words names (line.Compare word cell expected desired) =
    word.now ∷ cell_text names cell ∷ name_text names expected ∷ name_text names desired ∷ []
line_words names (line.Number word count) = word.now ∷ decimal count ∷ []

-- a number after a space
abbrev pub number_after : ℕ → List ℕ
number_after number = codes " " ++ decimal number

-- the texts that stand for what a line has after its first word
abbrev pub word_texts : NameList → Word → List (List ℕ)
word_texts names (word.Of name) = name_text names name ∷ []
word_texts names (word.In cell) = cell_text names cell ∷ []
word_texts names (word.Fields fields) = map decimal fields
word_texts names (word.Field field) = decimal (field_number field) ∷ []
word_texts names (word.Number count) = decimal count ∷ []
word_texts names word.Null = codes "null" ∷ []

-- the same, each after a space
abbrev pub word_after : NameList → Word → List ℕ
word_after names (word.Of name) = 32 ∷ name_text names name
word_after names (word.In cell) = codes " " ++ cell_text names cell
word_after names (word.Fields fields) = flat_map number_after fields
word_after names (word.Field field) = number_after (field_number field)
word_after names (word.Number count) = number_after count
word_after names word.Null = 32 ∷ codes "null"

-- words with single spaces between them
abbrev pub spaced : List (List ℕ) → List ℕ
spaced words = join_with_byte 32 words

-- the line of a statement
abbrev pub call_line : NameList → Call → List ℕ
call_line names call = spaced (call_words names call)

-- the lines of a thread's statements
abbrev pub section_lines : Section → List (List ℕ)
section_lines section = map (call_line section.names) section.calls

-- the same after the line that begins the thread
abbrev pub begun_lines : Section → List (List ℕ)
begun_lines section = codes "thread" ∷ section_lines section

-- a line `thread` stands before each thread but the first
abbrev pub thread_lines : List Section → List (List ℕ)
thread_lines [] = []
thread_lines (first ∷ others) = section_lines first ++ flat_map begun_lines others

-- the words of the header of version 2
abbrev pub header_words : ℕ → List (List ℕ)
header_words blocks = codes "version" ∷ codes "2" ∷ codes "blocks" ∷ decimal blocks ∷ []

-- version 1 has no header
abbrev pub header_lines : Version → List (List ℕ)
header_lines One = []
header_lines (Two blocks) = spaced (header_words blocks) ∷ []

-- the header, if there is one, and then the threads
abbrev pub script_lines : ScriptView → List (List ℕ)
script_lines script = header_lines script.version ++ thread_lines script.threads

-- each line with its line feed
abbrev pub canonical : ScriptView → List ℕ
canonical script = ended (script_lines script)
