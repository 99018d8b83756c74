-- Numbers in decimal digits. All of it is own.
use Rattle.std.specs.Prelude.{ℕ, ◌^◌, ◌&&◌, Bool, List, length, Option, Some, None, nat_lt, nat_le}
use Rattle.std.specs.Prelude.{if◌then◌else◌}
use Rattle.std.specs.List.{list_all}
use Rattle.std.specs.Str.Parse.{digits_value}

-- a decimal digit
abbrev pub is_digit : ℕ → Bool
is_digit b = nat_le 48 b && nat_le b 57

-- one or more digits, of a number below 2 ^ 64
abbrev pub is_number : List ℕ → Bool
is_number word =
    list_all is_digit word && nat_lt 0 (length word) && nat_lt (digits_value 10 word) (2 ^ 64)

-- the number that a word is
abbrev pub number_in : List ℕ → Option ℕ
number_in word = if is_number word then Some (digits_value 10 word) else None
