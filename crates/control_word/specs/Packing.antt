-- The layout of packed words, as plain arithmetic (own).
use Rattle.std.specs.Prelude.{◌≡◌, ◌==◌, cond, ℕ, ◌+◌, ◌*◌, ◌/◌, ◌%◌, ◌<◌, ◌≤◌}
use Rattle.std.specs.Prelude.{Option, Some, None, IfSome}
use Rattle.control_word.specs.declared.place.Block.{Block}
use Rattle.control_word.specs.declared.place.Place.{Place}
use Rattle.control_word.specs.declared.packed.cell.CellWord.{CellWord}
use Rattle.control_word.specs.declared.packed.counts.Count.{Count}
use Rattle.control_word.specs.Limits.{most_blocks, block_low, block_high, taken_limit, one_fund}
use Rattle.control_word.specs.Limits.{one_place_low, one_field}
use Rattle.control_word.specs.Limits.{one_taken, one_owned_high, one_place_high}

-- A block's number
abbrev pub IsBlock : Block → Type 0
IsBlock b = (0 < b.0) × (b.0 ≤ most_blocks)

-- A place that isn't null
abbrev pub IsPlace : Place → Type 0
IsPlace p = IsBlock p.block × (p.field ≤ 3)

-- The numbers of a cell are within their ranges
pub record IsCellWord (x : CellWord) : Type 0 where
  pub owned : IfSome x.owned IsBlock
  pub place : IfSome x.place IsPlace
  pub taken : x.taken < taken_limit

-- the block's number, 0 where there is none
abbrev pub block_number : Option Block → ℕ
block_number None = 0
block_number (Some b) = b.0

-- the number of the place's block, 0 where the place is null
abbrev pub place_block : Option Place → ℕ
place_block None = 0
place_block (Some p) = p.block.0

-- the place's field, 0 where the place is null
abbrev pub place_field : Option Place → ℕ
place_field None = 0
place_field (Some p) = p.field

-- the two parts of a block's number in a cell's word: its low 16 bits and its high 6
abbrev pub low_part : ℕ → ℕ
low_part number = number % block_low

abbrev pub high_part : ℕ → ℕ
high_part number = number / block_low

-- a cell's word: its parts begin at bits 0, 16, 32, 34, 52 and 58
abbrev pub cell_bits : CellWord → ℕ
cell_bits x =
    low_part (block_number x.owned)
    + one_place_low * low_part (place_block x.place)
    + one_field * place_field x.place
    + one_taken * x.taken
    + one_owned_high * high_part (block_number x.owned)
    + one_place_high * high_part (place_block x.place)

-- the number of the owned block in a cell's word, 0 where there is none
abbrev pub owned_in : ℕ → ℕ
owned_in word = word % block_low + block_low * (word / one_owned_high % block_high)

-- the number of the place's block, 0 where the place is null
abbrev pub place_block_in : ℕ → ℕ
place_block_in word = word / one_place_low % block_low + block_low * (word / one_place_high)

-- the place's field
abbrev pub field_in : ℕ → ℕ
field_in word = word / one_field % 4

-- how many funds were taken
abbrev pub taken_in : ℕ → ℕ
taken_in word = word / one_taken % taken_limit

-- the word with no fund taken
abbrev pub without_taken : ℕ → ℕ
without_taken word = word % one_taken + one_owned_high * (word / one_owned_high)

-- the block of a number, none at 0
abbrev pub block_in : ℕ → Option Block
block_in number = cond (number == 0) None (Some record { 0 = number })

-- the place of a block's number and a field, null at 0
abbrev pub place_in : ℕ → ℕ → Option Place
place_in number field =
    cond (number == 0) None (Some record { block = record { 0 = number }; field = field })

-- what a cell's word says
abbrev pub cell_in : ℕ → CellWord
cell_in word = record {
  owned = block_in (owned_in word);
  place = place_in (place_block_in word) (field_in word);
  taken = taken_in word;
}

-- The word says a cell, and is its word
pub record IsWellPacked (word : ℕ) : Type 0 where
  pub valid : IsCellWord (cell_in word)
  pub bits : cell_bits (cell_in word) ≡ word

-- It is the word of some cell
pub record IsPackedCell (word : ℕ) : Type 0 where
  pub cell : CellWord
  pub valid : IsCellWord cell
  pub bits : word ≡ cell_bits cell

-- Cells with one word are one
abbrev pub PackingIsOneToOne : Type 0
PackingIsOneToOne =
    (x y : CellWord) → IsCellWord x → IsCellWord y → cell_bits x ≡ cell_bits y → x ≡ y

-- The halves of a count are within their ranges
abbrev pub IsCount : Count → Type 0
IsCount x = (x.number < one_fund) × (x.funds < one_fund)

-- a count's word: its parts begin at bits 0 and 32
abbrev pub count_bits : Count → ℕ
count_bits x = x.number + one_fund * x.funds

-- the number in a count's word
abbrev pub number_of : ℕ → ℕ
number_of word = word % one_fund

-- the funds in a count's word
abbrev pub funds_of : ℕ → ℕ
funds_of word = word / one_fund

-- what use_count tells of an owner word: the number, but 1 where only loads under way hold the object
abbrev pub told : ℕ → ℕ
told word = cond (number_of word == 0) (cond (funds_of word == 0) 0 1) (number_of word)
