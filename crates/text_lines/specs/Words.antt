-- The words of a line. All of it is own.
use Rattle.std.specs.Prelude.{ℕ, ◌==◌, ◌||◌, Bool, List, [], ◌∷◌, length, take, drop, filter, not}
use Rattle.std.specs.Prelude.{position}
use Rattle.std.specs.Prelude.{Option, Some, None, nat_lt, if◌then◌else◌}
use Rattle.std.specs.List.{slice_split}

-- a space or a tab
abbrev pub is_space : ℕ → Bool
is_space b = b == 32 || b == 9

-- the words, parted by one or more spaces
abbrev pub words_of : List ℕ → List (List ℕ)
words_of line = filter (λ w. nat_lt 0 (length w)) (slice_split is_space line)

abbrev pub from_place : Option ℕ → List ℕ → List ℕ
from_place None line = []
from_place (Some place) line = drop place line

abbrev pub to_place : Option ℕ → List ℕ → List ℕ
to_place None line = line
to_place (Some place) line = take place line

-- without the spaces before the first word
abbrev pub without_spaces : List ℕ → List ℕ
without_spaces line = from_place (position (λ b. not (is_space b)) line) line

-- a byte before what is left of a line without its last spaces
abbrev pub before_left : ℕ → List ℕ → List ℕ
before_left b [] = if is_space b then [] else b ∷ []
before_left b (x ∷ xs) = b ∷ x ∷ xs

-- without the spaces after the last word
abbrev pub without_last_spaces : List ℕ → List ℕ
without_last_spaces [] = []
without_last_spaces (b ∷ bs) = before_left b (without_last_spaces bs)

-- the first word of a line that begins with one, and what follows it, from the next word on
abbrev pub first_word : List ℕ → List ℕ
first_word line = to_place (position is_space line) line

abbrev pub after_word : List ℕ → List ℕ
after_word line = without_spaces (from_place (position is_space line) line)
