-- The limits of every domain, and what the parts of packed words count (own).
use Rattle.std.specs.Prelude.{ℕ, ◌+◌, ◌*◌, ◌<◌}

-- blocks of a shape
abbrev pub most_blocks : ℕ
most_blocks = 4000000

-- members of an object
abbrev pub most_members : ℕ
most_members = 9

-- free cells of a shape, shared and weak together
abbrev pub most_free_cells : ℕ
most_free_cells = 65536

-- handles that all desks of a domain may hold together
abbrev pub most_allowance : ℕ
most_allowance = 4194304

-- funds that come with a handle into a cell
abbrev pub cell_funds : ℕ
cell_funds = 256

-- one fund in a count's word: its number and its funds are both below this
abbrev pub one_fund : ℕ
one_fund = 4294967296

-- a fund that becomes a handle takes so much off its count
abbrev pub fund_turned : ℕ
fund_turned = 4294967295

-- a handle with its funds in a count's word
abbrev pub one_funded : ℕ
one_funded = 1099511627777

-- A block with so many handles on it, each with its funds, has room on its count: the allowance twice, for handles in
-- hand and for what half-done calls brought, the members of this kind of all blocks, and the free cells
abbrev pub HasRoomForFunds : ℕ → ℕ → ℕ → ℕ → Type 0
HasRoomForFunds allowance members blocks cells =
    (2 * allowance + members * blocks + cells) * cell_funds < one_fund

-- so a count's number is at most this
abbrev pub most_number : ℕ
most_number = 16777215

-- a block's number is two parts in a cell's word: what is below this, and how often this is in it
abbrev pub block_low : ℕ
block_low = 65536

-- the high part is below this
abbrev pub block_high : ℕ
block_high = 64

-- what one of each part is worth in a cell's word: of the low part of the place's block, of the place's field, of the
-- funds taken, and of the high parts of the owned block and of the place's block. The low part of the owned block is
-- the lowest
abbrev pub one_place_low : ℕ
one_place_low = 65536

abbrev pub one_field : ℕ
one_field = 4294967296

abbrev pub one_taken : ℕ
one_taken = 17179869184

abbrev pub one_owned_high : ℕ
one_owned_high = 4503599627370496

abbrev pub one_place_high : ℕ
one_place_high = 288230376151711744

-- the funds taken are below this
abbrev pub taken_limit : ℕ
taken_limit = 262144
