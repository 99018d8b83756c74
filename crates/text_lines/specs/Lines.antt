-- The lines of a text. All of it is own.
use Rattle.std.specs.Prelude.{◌≡◌, ℕ, ◌-◌, ◌==◌, ◌&&◌, ◌||◌, ◌++◌, Bool, false, String, List, []}
use Rattle.std.specs.Prelude.{◌∷◌, length, take}
use Rattle.std.specs.Prelude.{if◌then◌else◌, nat_le, nat_lt, slice_index, string_bytes}
use Rattle.std.specs.List.{AllByRecursion}

-- a line feed
abbrev pub is_feed : ℕ → Bool
is_feed b = b == 10

-- no byte is a line feed
abbrev pub HasNoFeed : List ℕ → Type 0
HasNoFeed bytes = AllByRecursion (λ b. is_feed b ≡ false) bytes

-- the bytes are a line, its line feed, and what follows it
pub record IsLineCut (bytes line rest : List ℕ) : Type 0 where
  pub clean : HasNoFeed line
  pub text : bytes ≡ line ++ 10 ∷ rest

-- lines, each with its line feed
abbrev pub ended : List (List ℕ) → List ℕ
ended [] = []
ended (line ∷ lines) = line ++ 10 ∷ ended lines

-- the text goes on with these lines
abbrev pub AddsLines : {A : Type 0} → String A → String A → List (List ℕ) → Type 0
AddsLines old new lines = string_bytes new ≡ string_bytes old ++ ended lines

-- a line without the carriage return at its end
abbrev pub line_content : List ℕ → List ℕ
line_content line =
    if nat_lt 0 (length line) && slice_index line (length line - 1) == 13
    then take (length line - 1) line
    else line

-- a byte that may stand in a line: a space, a tab, or a character that can be seen
abbrev pub is_clean_byte : ℕ → Bool
is_clean_byte b = (nat_le 32 b && nat_le b 126) || b == 9
