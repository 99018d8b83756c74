-- Names, numbers, fields and cells, as words.
use Rattle.std.specs.Prelude.{ℕ, ◌==◌, ◌&&◌, ◌||◌, Bool, false, List, [], ◌∷◌}
use Rattle.std.specs.Prelude.{length, Result, Ok, Err, nat_lt, nat_le, if◌then◌else◌}
use Rattle.std.specs.List.{list_all}
use Rattle.std.specs.Str.Parse.{digits_value}
use Rattle.script_text.specs.declared.fault.Cause.{Cause}
use Rattle.text_lines.specs.Reading.{◌>>=◌}
use Rattle.script_text.specs.declared.fault.Cause.TheVariants.{BadCell, BadField, BadName}
use Rattle.script_text.specs.declared.fault.Cause.TheVariants.{BadNumber}
pub use Rattle.text_lines.specs.Lines.{is_clean_byte, line_content}
pub use Rattle.text_lines.specs.Numbers.{is_digit, is_number}
pub use Rattle.text_lines.specs.Words.{is_space, words_of}
use Rattle.step_threads.specs.declared.programs.call.CellName.{CellName}
use Rattle.step_threads.specs.declared.programs.call.CellName.TheVariants as free
use Rattle.step_table.specs.declared.memory.field.Field.{Field}
use Rattle.step_table.specs.declared.memory.field.Field.TheVariants.{Zero, One, Two, Three}

-- a letter from `a` to `z`
abbrev pub is_lower : ℕ → Bool
is_lower b = nat_le 97 b && nat_le b 122

-- a letter, a digit or `_`
abbrev pub is_name_byte : ℕ → Bool
is_name_byte b = (is_lower b || is_digit b) || b == 95

-- a letter, then letters, digits and `_`, of 1 to 16 bytes in all
abbrev pub is_name : List ℕ → Bool
is_name [] = false
is_name (b ∷ bs) = is_lower b && nat_lt (length bs) 16 && list_all is_name_byte bs

-- the name that a word is
abbrev pub name_at : List ℕ → Result (List ℕ) Cause
name_at word = if is_name word then Ok word else Err BadName

-- the number that a word is
abbrev pub number_at : List ℕ → Result ℕ Cause
number_at word = if is_number word then Ok (digits_value 10 word) else Err BadNumber

-- the field with this number
abbrev pub field_numbered : ℕ → Result Field Cause
field_numbered n =
    if n == 0 then Ok Zero
    else (if n == 1 then Ok One else (if n == 2 then Ok Two
    else (if n == 3 then Ok Three else Err BadField)))

-- a field's number, and no other word
abbrev pub numbered_field : Result ℕ Cause → Result Field Cause
numbered_field (Ok n) = field_numbered n
numbered_field (Err c) = Err BadField

-- the field that a word is
unfoldable pub field_of_word : List ℕ → Result Field Cause
field_of_word word = numbered_field (number_at word)

-- a cell's number, among 128 of its kind
abbrev pub cell_numbered : ℕ → Result ℕ Cause
cell_numbered n = if nat_lt n 128 then Ok n else Err BadCell

-- and no other word
abbrev pub numbered_cell : Result ℕ Cause → Result ℕ Cause
numbered_cell (Ok n) = cell_numbered n
numbered_cell (Err c) = Err BadCell

-- the number of a cell that a word is
unfoldable pub cell_number_at : List ℕ → Result ℕ Cause
cell_number_at word = numbered_cell (number_at word)

-- the cell of a kind by its number
abbrev pub cell_of_kind : (ℕ → CellName) → List ℕ → Result CellName Cause
cell_of_kind kind number = do
  n ← cell_number_at number
  Ok (kind n)

-- the free cell that a word is: `s` or `w`, and its number
unfoldable pub free_cell_at : List ℕ → Result CellName Cause
free_cell_at [] = Err BadCell
free_cell_at (letter ∷ number) =
    if letter == 115 then cell_of_kind free.Shared number
    else (if letter == 119 then cell_of_kind free.Weak number else Err BadCell)
