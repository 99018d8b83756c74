-- A graph so far, and what each line adds to it. All of it is own.
use Rattle.std.specs.Prelude.{ℕ, ◌+◌, ◌-◌, Bool, true, false, ◌&&◌, ◌||◌, List, [], ◌∷◌, ◌++◌}
use Rattle.std.specs.Prelude.{length, replicate, if◌then◌else◌, nat_lt, ◌==◌, slice_index_or}
use Rattle.std.specs.Prelude.{slice_set, Ok, Err, codes, Result}
use Rattle.owner_text.specs.Prelude.{bytes_eq, Holding, list_all}
use Rattle.text_lines.specs.Lines.{is_clean_byte, line_content}
use Rattle.text_lines.specs.Reading.{◌>>=◌}
use Rattle.text_lines.specs.Words.{after_word, first_word, without_last_spaces, without_spaces}
use Rattle.owner_text.specs.Labels.{with_label}
use Rattle.owner_text.specs.Words.{label_at, object_number_at}
use Rattle.owner_text.specs.declared.fault.Cause.{Cause}
use Rattle.owner_text.specs.declared.fault.Cause.TheVariants.{BadByte, NoSuchObject}
use Rattle.owner_text.specs.declared.fault.Cause.TheVariants.{ObjectNamedTwice, TooManyHandles}
use Rattle.owner_text.specs.declared.fault.Cause.TheVariants.{UnknownStatement, WrongNumberOfWords}
use Rattle.owner_text.specs.declared.draft.Draft as rust

-- a graph so far: of each number, from 0, one more than the number of the object's label, or 0
-- where there is no such object; the labels; and the handles, each with its place among them as its
-- slot
pub record Draft : Type 0 where
  pub objects : List ℕ
  pub labels : List (List ℕ)
  pub handles : List Holding

-- what a clause sees of a draft
abbrev pub draft_of : rust.Draft → Draft
draft_of d = record { objects = d.objects.items; labels = d.labels; handles = d.handles.items }

-- the graph before the first line
abbrev pub new_draft : Draft
new_draft = record { objects = 0 ∷ []; labels = []; handles = [] }

abbrev pub object_at : List ℕ → ℕ → ℕ
object_at objects number = slice_index_or objects number 0

-- there is an object with this number
abbrev pub is_object : List ℕ → ℕ → Bool
is_object objects number = nat_lt 0 (object_at objects number)

-- room for objects up to this number
abbrev pub with_room : List ℕ → ℕ → List ℕ
with_room objects number = objects ++ replicate (number + 1 - length objects) 0

-- an object with this number and label
abbrev pub with_object : Draft → ℕ → ℕ × List (List ℕ) → Draft
with_object d number found = record {
  objects = slice_set (with_room d.objects number) number (found.0 + 1);
  labels = found.1;
  handles = d.handles;
}

abbrev pub named : Draft → ℕ → List ℕ → Result Draft Cause
named d number label =
    if is_object d.objects number then Err ObjectNamedTwice
    else Ok (with_object d number (with_label label d.labels))

-- a handle more
abbrev pub with_handle : Draft → ℕ → ℕ → Bool → ℕ × List (List ℕ) → Draft
with_handle d from to owner found = record {
  objects = d.objects;
  labels = found.1;
  handles = d.handles
      ++ record { from = from; to = to; slot = length d.handles; label = found.0; is_owner = owner }
      ∷ [];
}

-- the handle is in an object, or in something that is none, and on an object
abbrev pub held : Draft → ℕ → ℕ → Bool → List ℕ → Result Draft Cause
held d from to owner label =
    if (from == 0 || is_object d.objects from) && is_object d.objects to
    then (if nat_lt (length d.handles) 67108864
    then Ok (with_handle d from to owner (with_label label d.labels))
    else Err TooManyHandles)
    else Err NoSuchObject

-- a line that names an object
abbrev pub object_line : Draft → List ℕ → Result Draft Cause
object_line d [] = Err WrongNumberOfWords
object_line d (b ∷ bs) = do
  number ← object_number_at (first_word (b ∷ bs))
  label ← label_at (after_word (b ∷ bs))
  named d number label

-- a line of a handle from this number on
abbrev pub labelled : Draft → ℕ → ℕ → Bool → List ℕ → Result Draft Cause
labelled d from to owner rest = do
  label ← label_at rest
  held d from to owner label

-- a line of what is no object
abbrev pub root_line : Draft → List ℕ → Result Draft Cause
root_line d rest =
    if length (after_word rest) == 0 then Err WrongNumberOfWords
    else (object_number_at (first_word rest)
    >>= λ number. labelled d 0 number true (after_word rest))

-- a line of a handle in an object
abbrev pub handle_line : Draft → Bool → List ℕ → Result Draft Cause
handle_line d owner rest =
    if length (after_word (after_word rest)) == 0 then Err WrongNumberOfWords
    else (do
      from ← object_number_at (first_word rest)
      to ← object_number_at (first_word (after_word rest))
      labelled d from to owner (after_word (after_word rest)))

-- a line that isn't skipped, by its first word
abbrev pub statement_line : Draft → List ℕ → List ℕ → Result Draft Cause
statement_line d first rest =
    if bytes_eq first (codes "object") then object_line d rest
    else (if bytes_eq first (codes "owner") then handle_line d true rest
    else (if bytes_eq first (codes "weak") then handle_line d false rest
    else (if bytes_eq first (codes "root") then root_line d rest else Err UnknownStatement)))

-- a line without words, or whose first word begins with `#`, is skipped
abbrev pub after_words : Draft → List ℕ → Result Draft Cause
after_words d [] = Ok d
after_words d (b ∷ bs) =
    if b == 35 then Ok d else statement_line d (first_word (b ∷ bs)) (after_word (b ∷ bs))

-- the graph after a line, given without its line feed, or the first cause why the line is faulty
abbrev pub after_line : Draft → List ℕ → Result Draft Cause
after_line d line =
    if list_all is_clean_byte (line_content line)
    then after_words d (without_spaces (without_last_spaces (line_content line)))
    else Err BadByte
