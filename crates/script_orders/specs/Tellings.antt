-- Which lines a script can tell, as far as its statements alone say. All of it is own.
use Rattle.std.specs.Prelude.{◌≡◌, ℕ, ◌+◌, ◌==◌, ◌||◌, ◌++◌, Bool, true, false, not, if◌then◌else◌, List, [], ◌∷◌, drop}
use Rattle.std.specs.Prelude.{Option, Some, None, position, codes, decimal}
use Rattle.text_lines.specs.Numbers.{is_digit}
use Rattle.script_text.specs.Drafts.{ScriptView}
use Rattle.script_text.specs.Grammar.{ReadsAs}
use Rattle.script_text.specs.Scripts.{program_in}
use Rattle.step_threads.specs.Programs.{Part}
use Rattle.step_threads.specs.declared.programs.call.Call.{Call}
use Rattle.step_threads.specs.declared.programs.call.Call.TheVariants.{Count, Expired, Lock, Upgrade, WeakCount}
use Rattle.step_threads.specs.declared.programs.call.Call.TheVariants.{Read, Place, Same, Before, Compare, Holds}

abbrev pub from_place : Option ℕ → List ℕ → List ℕ
from_place None text = []
from_place (Some place) text = drop place text

-- what follows the digits that a text begins with
abbrev pub after_digits : List ℕ → List ℕ
after_digits text = from_place (position (λ b. not (is_digit b)) text) text

-- what follows a part of a form: one digit or more for N, and else just this byte; none where something else comes
abbrev pub after_part : ℕ → List ℕ → Option (List ℕ)
after_part part [] = None
after_part part (b ∷ bs) =
    if part == 78
    then (if is_digit b then Some (after_digits bs) else None)
    else (if b == part then Some bs else None)

-- what follows all of its parts
abbrev pub after_form : List ℕ → Option (List ℕ) → Option (List ℕ)
after_form form None = None
after_form [] (Some text) = Some text
after_form (part ∷ parts) (Some text) = after_form parts (after_part part text)

abbrev pub is_end : Option (List ℕ) → Bool
is_end None = false
is_end (Some []) = true
is_end (Some (b ∷ bs)) = false

-- the text has this form, in which each N stands for one digit or more
abbrev pub is_like : List ℕ → List ℕ → Bool
is_like form text = is_end (after_form form (Some text))

-- it has one of two
abbrev pub is_either : List ℕ → List ℕ → List ℕ → Bool
is_either one other text = is_like one text || is_like other text

-- a statement may answer so, where it isn't refused
abbrev pub answers : Call → List ℕ → Bool
answers (Count name) text = is_like (codes "count N") text
answers (WeakCount name) text = is_like (codes "count N") text
answers (Expired name) text = is_either (codes "expired yes") (codes "expired no") text
answers (Lock target source) text = is_either (codes "lock owner") (codes "lock empty") text
answers (Upgrade target source) text = is_like (codes "upgrade owner") text
answers (Read name) text = is_like (codes "read N") text
answers (Place name) text = is_either (codes "place N.N") (codes "place null") text
answers (Same first second) text = is_either (codes "same yes") (codes "same no") text
answers (Before first second) text = is_either (codes "before yes") (codes "before no") text
answers (Compare cell expected desired weak) text = is_either (codes "compare yes") (codes "compare no") text
answers (Holds cell name) text = is_either (codes "holds yes") (codes "holds no") text
answers _ text = false

-- so an object's end is told
abbrev pub tells_end : List ℕ → Bool
tells_end text = is_either (codes "end N N N N") (codes "end null") text

-- a statement may tell this: its answer, its refusal, or the end of an object
abbrev pub tells : Call → List ℕ → Bool
tells call text = answers call text || (is_like (codes "refused N") text || tells_end text)

abbrev pub on_rest : (List ℕ → Bool) → Option (List ℕ) → Bool
on_rest test None = false
on_rest test (Some rest) = test rest

-- how a line of a statement begins, and one of a thread's end
abbrev pub statement_start : ℕ → ℕ → List ℕ
statement_start thread number = decimal thread ++ codes "." ++ decimal number ++ codes " "

abbrev pub end_start : ℕ → List ℕ
end_start thread = decimal thread ++ codes ".end "

-- the line of a thread is one that one of these statements may tell, of which the first has this number
abbrev pub some_statement : ℕ → ℕ → List Call → List ℕ → Bool
some_statement thread number [] line = false
some_statement thread number (call ∷ calls) line =
    on_rest (tells call) (after_form (statement_start thread number) (Some line))
    || some_statement thread (number + 1) calls line

-- or one that the thread's end may tell
abbrev pub thread_tells : ℕ → List Call → List ℕ → Bool
thread_tells thread calls line =
    on_rest tells_end (after_form (end_start thread) (Some line)) || some_statement thread 1 calls line

-- it is such a line of one of these threads, of which the first has this number
abbrev pub some_thread : ℕ → List Part → List ℕ → Bool
some_thread thread [] line = false
some_thread thread (part ∷ parts) line = thread_tells thread part.calls line || some_thread (thread + 1) parts line

-- what is left is told so, at the end of a run
abbrev pub tells_left : List ℕ → Bool
tells_left line = is_either (codes "block N owners N weaks N") (codes "made N ended N left N") line

-- some statement of the script, or the end of a thread or of the run, may tell the line
abbrev pub can_tell : ScriptView → List ℕ → Bool
can_tell script line = tells_left line || some_thread 1 (program_in script.threads) line

-- whether the script that the bytes spell can tell it
pub record CanTell (bytes line : List ℕ) (can : Bool) : Type 0 where
  pub script : ScriptView
  pub reads : ReadsAs bytes script
  pub is : can_tell script line ≡ can
