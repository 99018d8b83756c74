-- Where words lie in a table, and how large it may be (own).
use Rattle.std.specs.Prelude.{◌≡◌, ℕ, ◌+◌, ◌-◌, ◌*◌, ◌/◌, ◌^◌, ◌%◌, ◌<◌, ◌≤◌}
use Rattle.control_word.specs.declared.shape.Shape.{Shape}
use Rattle.control_word.specs.declared.site.Site.{Site}
use Rattle.control_word.specs.declared.site.Site.TheVariants as site
use Rattle.control_word.specs.Limits.{most_blocks, most_members, most_free_cells, most_allowance, HasRoomForFunds}

-- word k of block b
abbrev pub spot : ℕ → ℕ → ℕ
spot b k = 16 * (b - 1) + k

-- free cell c of a table with so many blocks
abbrev pub cell_place : ℕ → ℕ → ℕ
cell_place blocks c = 16 * blocks + 8 * c

-- a member's block is from 1 on, and there are nine members at the most
abbrev pub IsSite : Site → Type 0
IsSite (site.Free n) = Unit {0}
IsSite (site.Member b m) = (0 < b.0) × (m < most_members)

-- the word of a cell in a table with so many blocks
abbrev pub site_place : ℕ → Site → ℕ
site_place blocks (site.Free n) = cell_place blocks n
site_place blocks (site.Member b m) = spot b.0 (7 + m)

-- shelf word j of a table with so many blocks and free cells
abbrev pub shelf_place : ℕ → ℕ → ℕ → ℕ
shelf_place blocks cells j = 16 * blocks + 8 * cells + j

-- the shelf has a bit for each block, in words of 64
abbrev pub shelf_words : ℕ → ℕ
shelf_words blocks = blocks / 64 + 1

-- behind it is its summary, which has a bit for each word of the shelf
abbrev pub summary_words : ℕ → ℕ
summary_words blocks = blocks / 4096 + 1

-- summary word j
abbrev pub summary_place : ℕ → ℕ → ℕ → ℕ
summary_place blocks cells j = shelf_place blocks cells (shelf_words blocks + j)

-- the words of a table with so many blocks and free cells
abbrev pub all_words : ℕ → ℕ → ℕ
all_words blocks cells = summary_place blocks cells (summary_words blocks)

abbrev pub table_size : Shape → ℕ
table_size z = all_words z.blocks (z.shared_cells + z.weak_cells)

-- the number that has the bit of block b alone
abbrev pub bit_of : ℕ → ℕ
bit_of b = 2 ^ (b % 64)

-- No two words lie at one place: blocks first, then cells, then the shelf and its summary, all within the table. Each
-- block has its bit in the shelf, and each word of the shelf its own in the summary
pub record WordsLieApart : Type 0 where
  pub blocks : (b d j k : ℕ)
      → 0 < b → 0 < d → j < 16 → k < 16 → spot b j ≡ spot d k → (b ≡ d) × (j ≡ k)
  pub cells : (n c d : ℕ) → cell_place n c ≡ cell_place n d → c ≡ d
  pub behind : (n b k c : ℕ) → 0 < b → b ≤ n → k < 16 → spot b k < cell_place n c
  pub block_within : (z : Shape) (b k : ℕ) → 0 < b → b ≤ z.blocks → k < 16 → spot b k < table_size z
  pub cell_within : (z : Shape) (c : ℕ)
      → c < z.shared_cells + z.weak_cells → cell_place z.blocks c < table_size z
  pub shelf : (n m i j : ℕ) → shelf_place n m i ≡ shelf_place n m j → i ≡ j
  pub last : (n m c j : ℕ) → c < m → cell_place n c < shelf_place n m j
  pub shelf_within : (z : Shape) (j : ℕ)
      → j < shelf_words z.blocks → shelf_place z.blocks (z.shared_cells + z.weak_cells) j < table_size z
  pub summary : (n m i j : ℕ) → summary_place n m i ≡ summary_place n m j → i ≡ j
  pub behind_shelf : (n m i j : ℕ) → i < shelf_words n → shelf_place n m i < summary_place n m j
  pub summary_within : (z : Shape) (j : ℕ)
      → j < summary_words z.blocks → summary_place z.blocks (z.shared_cells + z.weak_cells) j < table_size z
  pub block_bit : (n b : ℕ) → b ≤ n → b / 64 < shelf_words n
  pub word_bit : (n j : ℕ) → j < shelf_words n → j / 64 < summary_words n

-- A domain of this shape can be opened
pub record IsWithinLimits (z : Shape) : Type 0 where
  pub some_block : 0 < z.blocks
  pub blocks : z.blocks ≤ most_blocks
  pub members : (2 ≤ z.owners) × (1 ≤ z.weaks) × (z.owners + z.weaks ≤ most_members)
  pub cells : z.shared_cells + z.weak_cells ≤ most_free_cells
  pub some_handle : 0 < z.allowance
  pub allowance : z.allowance ≤ most_allowance
  pub owners_room : HasRoomForFunds z.allowance z.owners z.blocks (z.shared_cells + z.weak_cells)
  pub weaks_room : HasRoomForFunds z.allowance z.weaks z.blocks (z.shared_cells + z.weak_cells)
