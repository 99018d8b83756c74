-- A script so far, and what each line adds to it.
use Rattle.std.specs.Prelude.{ℕ, ◌+◌, ◌++◌, ◌==◌, ◌&&◌, Bool, true, false, List, [], ◌∷◌}
use Rattle.std.specs.Prelude.{length, map, Result, Ok, Err, nat_eq, nat_lt, if◌then◌else◌, codes}
use Rattle.std.specs.List.{list_all, starts_with}
use Rattle.std.specs.Str.{bytes_eq}
use Rattle.step_threads.specs.declared.programs.call.Call.{Call}
use Rattle.script_text.specs.declared.parts.draft.Draft as rust
use Rattle.script_text.specs.declared.fault.Cause.{Cause}
use Rattle.script_text.specs.declared.fault.Cause.TheVariants.{BadByte, WrongNumberOfWords}
use Rattle.script_text.specs.declared.fault.Cause.TheVariants.{TooManyThreads}
use Rattle.script_text.specs.declared.fault.Cause.TheVariants.{TooManyStatements}
use Rattle.script_text.specs.declared.words.keyword.Keyword.{Keyword}
use Rattle.script_text.specs.declared.parts.thread.Thread.{Thread}
use Rattle.script_text.specs.declared.parts.version.Version.{Version}
use Rattle.script_text.specs.declared.parts.version.Version.TheVariants.{One, Two}
use Rattle.text_lines.specs.Reading.{◌>>=◌}
use Rattle.script_text.specs.Words.{is_clean_byte, line_content, words_of}
use Rattle.script_text.specs.Names.{NameList}
use Rattle.script_text.specs.Keywords.{keyword_at, takes_words}
use Rattle.script_text.specs.Calls.{call_at}
use Rattle.script_text.specs.Versions.{most_threads, version_at}

-- a thread, without where it lies in memory
pub record Section : Type 0 where
  pub names : NameList
  pub calls : List Call

-- what a clause sees of a thread
abbrev pub section_of : Thread → Section
section_of thread = record { names = thread.names; calls = thread.calls.items }

-- a thread without names and statements
abbrev pub no_section : Section
no_section = record { names = []; calls = [] }

-- a script, as a clause sees it
pub record ScriptView : Type 0 where
  pub version : Version
  pub threads : List Section

-- a script so far: its version, the threads before the current one, that one, and how many
-- statements all have
pub record Draft : Type 0 where
  pub version : Version
  pub done : List Section
  pub current : Section
  pub count : ℕ

-- what a clause sees of a draft
abbrev pub draft_of : rust.Draft → Draft
draft_of d =
    record {
      version = d.version;
      done = map section_of d.done.items;
      current = section_of d.current;
      count = d.count;
    }

-- the draft of a version before the first line of its threads
abbrev pub draft_in : Version → Draft
draft_in version = record { version = version; done = []; current = no_section; count = 0 }

-- the draft before the first line
abbrev pub new_draft : Draft
new_draft = draft_in One

-- the threads of a draft
abbrev pub sections : Draft → List Section
sections d = d.done ++ d.current ∷ []

-- the script that a draft is
abbrev pub script_of : Draft → ScriptView
script_of d = record { version = d.version; threads = sections d }

-- the next thread begins, as one of the most that the version has
abbrev pub next_thread : Draft → Result Draft Cause
next_thread d =
    if nat_lt (length d.done + 1) (most_threads d.version)
    then Ok (record {
      version = d.version;
      done = d.done ++ d.current ∷ [];
      current = no_section;
      count = d.count;
    })
    else Err TooManyThreads

-- a call goes last in the current thread
abbrev pub with_call : Draft → Call × NameList → Draft
with_call d r = record {
  version = d.version;
  done = d.done;
  current = record { names = r.1; calls = d.current.calls ++ r.0 ∷ [] };
  count = d.count + 1;
}

-- the next statement, as one of at most 65,536
abbrev pub next_call : Draft → Keyword → List (List ℕ) → Result Draft Cause
next_call d keyword words =
    if nat_lt d.count 65536
    then (call_at d.current.names keyword words >>= λ r. Ok (with_call d r))
    else Err TooManyStatements

-- a line `thread`, whose word stands alone
abbrev pub thread_line : Draft → List (List ℕ) → Result Draft Cause
thread_line d words = if length words == 0 then next_thread d else Err WrongNumberOfWords

-- a line of a statement
abbrev pub statement_line : Draft → List ℕ → List (List ℕ) → Result Draft Cause
statement_line d first words = do
  keyword ← keyword_at first
  if takes_words keyword (length words) then next_call d keyword words else Err WrongNumberOfWords

-- whether the version is the first
abbrev pub is_one : Version → Bool
is_one One = true
is_one (Two blocks) = false

-- whether all lines so far were skipped
abbrev pub is_new : Draft → Bool
is_new d = is_one d.version && length d.done == 0 && d.count == 0

-- a header, which is the first line that isn't skipped
abbrev pub header_line : List (List ℕ) → Result Draft Cause
header_line words = version_at words >>= λ version. Ok (draft_in version)

-- any other line
abbrev pub other_line : Draft → List ℕ → List (List ℕ) → Result Draft Cause
other_line d first words =
    if bytes_eq first (codes "thread") then thread_line d words else statement_line d first words

-- a line that isn't skipped
abbrev pub told_line : Draft → List ℕ → List (List ℕ) → Result Draft Cause
told_line d first words =
    if is_new d && bytes_eq first (codes "version") then header_line words
    else other_line d first words

-- a line without words, or whose first word begins with `#`, is skipped
abbrev pub after_words : Draft → List (List ℕ) → Result Draft Cause
after_words d [] = Ok d
after_words d (first ∷ words) =
    if starts_with nat_eq first (codes "#") then Ok d
    else told_line d first words

-- the draft after a line, given without its line feed, or the first cause why the line is faulty
abbrev pub after_line : Draft → List ℕ → Result Draft Cause
after_line d line =
    if list_all is_clean_byte (line_content line) then after_words d (words_of (line_content line))
    else Err BadByte
