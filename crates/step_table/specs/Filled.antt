-- A list of words of which only a beginning is filled. All of it is own.
use Rattle.std.specs.Prelude.{ℕ, ◌-◌, ◌≤◌, ◌++◌, List, Vec, length, replicate, vec_capacity}

-- the words behind the filled ones are 0
abbrev pub padded : ℕ → List ℕ → List ℕ
padded n words = words ++ replicate (n - length words) 0

module _ {Z : Type 0} where
  -- no more than n words are filled, and there is room for all
  pub record IsFilled (n : ℕ) (words : Vec ℕ Z) : Type 0 where
    pub few : length words.items ≤ n
    pub room : n ≤ vec_capacity words
