-- A text has one reading: one script, or one first faulty line with one cause.
use Rattle.std.proofs.Common.{◌≡◌, ℕ, List, Ok, Err, Result, sym, refl, ap, ◌∙◌, inl, inr}
use Rattle.script_text.proofs.Prelude.{after_line, Answers, Cause, Draft, Fault, new_draft}
use Rattle.script_text.proofs.Prelude.{ReadsAs, script_of, ScriptView, UnfinishedLine}
use Rattle.script_text.specs.declared.fault.Fault.TheVariants as fault
use Rattle.script_text.specs.Grammar.{Faulty, IsUnlessMemory}
use Rattle.text_lines.proofs.OneReading as lines

-- a script, or the number of a line and a cause
abbrev Reading : Type 0
Reading = Result ScriptView (ℕ × Cause)

-- what a text says: a script, or its first faulty line and the cause
abbrev Says : List ℕ → Reading → Type 0
Says bytes (Ok script) = ReadsAs bytes script
Says bytes (Err f) = Faulty bytes f.0 f.1

-- what its lines say
abbrev LineReading : Type 0
LineReading = Result Draft (ℕ × Cause)

reading_of : LineReading → Reading
reading_of (Ok d) = Ok (script_of d)
reading_of (Err f) = Err f

record Read (bytes : List ℕ) (r : Reading) : Type 0 where
  lines_read : LineReading
  says : lines.Says after_line UnfinishedLine new_draft bytes lines_read
  is : r ≡ reading_of lines_read

by_its_lines : (bytes : List ℕ) (r : Reading) → Says bytes r → Read bytes r
unfolding reading_of
by_its_lines bytes (Ok script) h =
    record {
      lines_read = Ok h.draft;
      says = (h.number, h.begins);
      is = ap (λ (s : ScriptView). Ok s) h.says;
    }
by_its_lines bytes (Err f) h = record { lines_read = Err f; says = h; is = refl }

one_reading : (bytes : List ℕ) (r s : Reading) → Says bytes r → Says bytes s → r ≡ s
one_reading bytes r s h k =
    let a = by_its_lines bytes r h in
    let b = by_its_lines bytes s k in
    a.is
    ∙ ap reading_of
    (lines.one_reading after_line UnfinishedLine new_draft bytes a.lines_read b.lines_read a.says
    b.says)
    ∙ sym b.is

-- ---- answers

-- the two readings of a text
abbrev script_is : ScriptView → Reading
script_is script = Ok script

abbrev fault_is : ℕ → Cause → Reading
fault_is line cause = Err (line, cause)

-- an answer that is true of a text with a script is that script, want of memory aside
pub reads_answer : (r : Result ScriptView Fault) (bytes : List ℕ) (script : ScriptView)
    → Answers r bytes → ReadsAs bytes script → IsUnlessMemory r (Ok script)
reads_answer (Ok s) bytes script a h =
    let same = one_reading bytes (script_is s) (script_is script) a h in inl cc
reads_answer (Err fault.Memory) bytes script a h = inr refl
reads_answer (Err (fault.Syntax line cause)) bytes script a h =
    let same = one_reading bytes (fault_is line cause) (script_is script) a h in absurd cc
reads_answer (Err (fault.BadTurn position)) bytes script a h = absurd a
reads_answer (Err fault.Output) bytes script a h = absurd a
reads_answer (Err fault.Input) bytes script a h = absurd a

-- an answer that is true of a faulty text is its fault, want of memory aside
pub faulty_answer : (r : Result ScriptView Fault) (bytes : List ℕ) (line : ℕ) (cause : Cause)
    → Answers r bytes → Faulty bytes line cause
    → IsUnlessMemory r (Err (fault.Syntax line cause))
faulty_answer (Ok s) bytes line cause a h =
    let same = one_reading bytes (script_is s) (fault_is line cause) a h in absurd cc
faulty_answer (Err fault.Memory) bytes line cause a h = inr refl
faulty_answer (Err (fault.Syntax n c)) bytes line cause a h =
    let same = one_reading bytes (fault_is n c) (fault_is line cause) a h in
    let pairs : (n, c) ≡ (line, cause) = cc in
    inl (ap (λ (f : ℕ × Cause). Err (fault.Syntax f.0 f.1)) pairs)
faulty_answer (Err (fault.BadTurn position)) bytes line cause a h = absurd a
faulty_answer (Err fault.Output) bytes line cause a h = absurd a
faulty_answer (Err fault.Input) bytes line cause a h = absurd a
