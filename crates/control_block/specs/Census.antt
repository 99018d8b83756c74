-- What is left of a domain.
use Rattle.std.specs.Prelude.{◌≡◌, ℕ, suc, Bool, true, ◌+◌, ◌-◌, ◌/◌, ◌%◌, ◌<◌, ◌≤◌, ◌↔◌, ◌==◌, cond, List}
use Rattle.std.specs.Prelude.{slice_index}
use Rattle.std.specs.Int.{bit_at}
use Rattle.control_word.specs.Layout.{shelf_place, spot}
use Rattle.control_word.specs.Packing.{number_of}
use Rattle.control_word.specs.State.{State, IsVacant, count, ending, sum_below, weak}

-- the words, and how many blocks, members of an object, owners among them and free cells there were
pub record CensusNow : Type 0 where
  pub blocks : ℕ
  pub members : ℕ
  pub owners : ℕ
  pub shared_cells : ℕ
  pub weak_cells : ℕ
  pub words : List ℕ

-- the block is on the shelf, where all vacant ones are once the domain is closed
abbrev pub is_free : CensusNow → ℕ → Bool
is_free c b =
    bit_at (slice_index c.words (shelf_place c.blocks (c.shared_cells + c.weak_cells) (b / 64))) (b % 64) == 1

abbrev pub IsFree : CensusNow → ℕ → Type 0
IsFree c b = is_free c b ≡ true

-- owner and weak handles of a block: none of a vacant one, whose weak word may have kept a 1, and of others without the
-- one that owners have in common
abbrev pub owners_in : CensusNow → ℕ → ℕ
owners_in c b = number_of (slice_index c.words (spot b 0))

abbrev pub weaks_in : CensusNow → ℕ → ℕ
weaks_in c b =
    cond (is_free c b) 0 (number_of (slice_index c.words (spot b 1)) - cond (owners_in c b == 0) 0 1)

-- the block is one of the domain's
abbrev pub HasBlock : CensusNow → ℕ → Type 0
HasBlock c b = (0 < b) × (b ≤ c.blocks)

-- how many of the first n blocks are vacant, and how many of all
abbrev pub vacant_among : CensusNow → ℕ → ℕ
vacant_among c n = sum_below n (λ j. cond (is_free c (suc j)) 1 0)

abbrev pub vacant_in : CensusNow → ℕ
vacant_in c = vacant_among c c.blocks

-- no object in the block is ending
abbrev pub EndsNot : State → ℕ → Type 0
EndsNot s b = (o d : ℕ) → (s.object o).block ≡ b → (s.object o).phase ≡ ending d → ⊥

-- the handles of a block, as the state has them, and whether it is vacant
pub record TellsBlock (s : State) (b : ℕ) (c : CensusNow) : Type 0 where
  pub owners : owners_in c b ≡ count s (s.latest b)
  pub weaks : weaks_in c b ≡ weak s (s.latest b)
  pub vacant : IsFree c b ↔ IsVacant s b

-- the census tells of each block in which no object is ending
pub record IsCensus (s : State) (n : ℕ) (c : CensusNow) : Type 0 where
  pub sized : c.blocks ≡ n
  pub tells : (b : ℕ) → 0 < b → b ≤ n → EndsNot s b → TellsBlock s b c

-- the census tells of all blocks
abbrev pub TellsAll : State → ℕ → CensusNow → Type 0
TellsAll s n c = (b : ℕ) → 0 < b → b ≤ n → TellsBlock s b c
