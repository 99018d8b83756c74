-- The numbers and the label of a line. All of it is own.
use Rattle.std.specs.Prelude.{ℕ, Bool, ◌&&◌, List, length, if◌then◌else◌, nat_lt, nat_le, Some}
use Rattle.std.specs.Prelude.{None, Ok, Err, Option, Result}
use Rattle.owner_text.specs.Prelude.{list_all}
use Rattle.text_lines.specs.Numbers.{number_in}
use Rattle.owner_text.specs.declared.fault.Cause.{Cause}
use Rattle.owner_text.specs.declared.fault.Cause.TheVariants.{BadByte, BadLabel, BadNumber}

-- a byte that may stand in a label: a space, or a character that can be seen
abbrev pub is_label_byte : ℕ → Bool
is_label_byte b = nat_le 32 b && nat_le b 126

-- a number that an object may have
abbrev pub object_numbered : Option ℕ → Result ℕ Cause
object_numbered None = Err BadNumber
object_numbered (Some n) = if nat_lt 0 n && nat_le n 16777215 then Ok n else Err BadNumber

-- the number of an object that a word is
abbrev pub object_number_at : List ℕ → Result ℕ Cause
object_number_at word = object_numbered (number_in word)

-- the label that the rest of a line is
abbrev pub label_at : List ℕ → Result (List ℕ) Cause
label_at rest =
    if list_all is_label_byte rest then (if nat_lt 1000 (length rest) then Err BadLabel
    else Ok rest) else Err BadByte
