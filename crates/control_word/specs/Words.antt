-- How the words show a state. All of it is own.
use Rattle.std.specs.Prelude.{◌≡◌, ℕ, zero, suc, ◌+◌, ◌-◌, ◌*◌, ◌/◌, ◌%◌, ◌<◌, ◌≤◌}
use Rattle.std.specs.Prelude.{◌==◌, Bool, true, cond}
use Rattle.std.specs.Prelude.{◌⊎◌, List, [], ◌∷◌, length, slice_index, Option, Some, None}
use Rattle.std.specs.Int.{bit_at}
use Rattle.control_word.specs.declared.model.handle.Kind.{Kind}
use Rattle.control_word.specs.declared.model.handle.Kind.TheVariants.{Owner, Weak}
use Rattle.control_word.specs.declared.model.handle.NumberedHandle.{NumberedHandle}
use Rattle.control_word.specs.declared.place.Place.{Place}
use Rattle.control_word.specs.declared.place.Block.{Block}
use Rattle.control_word.specs.declared.packed.cell.CellWord.{CellWord}
use Rattle.control_word.specs.declared.model.event.Cell.{Cell}
use Rattle.control_word.specs.declared.model.event.Cell.TheVariants.{Free, Member}
use Rattle.control_word.specs.Layout.{all_words, spot, cell_place, shelf_place, shelf_words}
use Rattle.control_word.specs.State.{sum_below, Opening, Object, State, count, weak_number}
use Rattle.control_word.specs.State.{IsVacant, InShape}
use Rattle.control_word.specs.State.{on_shelf}
use Rattle.control_word.specs.Limits.{most_members, cell_funds, one_place_low, one_field}
use Rattle.control_word.specs.Limits.{one_owned_high, one_place_high}
use Rattle.control_word.specs.Packing.{low_part, high_part}

-- the word of free cell c
abbrev pub cell_spot : Opening → ℕ → ℕ
cell_spot z c = cell_place z.blocks c

-- where a cell's word lies
abbrev pub cell_at : Opening → State → Cell → ℕ
cell_at z s (Free c) = cell_spot z c
cell_at z s (Member o m) = spot (s.object o).block (7 + m)

abbrev pub place_bits : Option Place → ℕ
place_bits None = 0
place_bits (Some p) =
    one_place_low * low_part p.block.0 + one_field * p.field + one_place_high * high_part p.block.0

abbrev pub owned_bits : (ℕ → ℕ) → Option ℕ → ℕ
owned_bits block None = 0
owned_bits block (Some o) = low_part (block o) + one_owned_high * high_part (block o)

-- a cell's word with no fund taken; `block` tells where an object is
unfoldable pub packed : (ℕ → ℕ) → NumberedHandle → ℕ
packed block h = owned_bits block h.object + place_bits h.place

-- what a cell with this handle and so many funds taken shows
abbrev pub block_of : (ℕ → ℕ) → Option ℕ → Option Block
block_of block None = None
block_of block (Some o) = Some record { 0 = block o }

abbrev pub shown : (ℕ → ℕ) → NumberedHandle → ℕ → CellWord
shown block h t = record { owned = block_of block h.object; place = h.place; taken = t }

abbrev pub blocks_of : State → ℕ → ℕ
blocks_of s o = (s.object o).block

abbrev pub flags_of : Bool → Bool → ℕ
flags_of enabled null = cond enabled 1 0 + cond null 2 0

-- the first n of these numbers
abbrev pub listed : ℕ → (ℕ → ℕ) → List ℕ
listed zero f = []
listed (suc n) f = f 0 ∷ listed n (λ i. f (suc i))

-- flags, four fields and nine members of an object
unfoldable pub object_words : (ℕ → ℕ) → Object → List ℕ
object_words block x =
    flags_of x.enabled x.null
    ∷ slice_index x.fields 0 ∷ slice_index x.fields 1 ∷ slice_index x.fields 2 ∷ slice_index x.fields 3
    ∷ listed most_members (λ m. packed block (x.member m))

-- the sixteen words of a block
abbrev pub block_words : State → ℕ → List ℕ
block_words s b = let o = s.latest b in count s o ∷ weak_number s o ∷ object_words (blocks_of s) (s.object o)

-- the flags and fields of a vacant block may be anything, and its weak word may be 1 where the domain keeps blocks
abbrev pub IsLoose : Opening → State → ℕ → ℕ → ℕ → Type 0
IsLoose z s b k n = (1 ≤ k) × (k ≤ 6) × IsVacant s b × (k ≡ 1 → (n ≡ 1) × (z.keeps_blocks ≡ true))

-- the word that counts handles of this kind of the object
abbrev pub slot : Kind → ℕ
slot Owner = 0
slot Weak = 1

abbrev pub counts_at : (ℕ → ℕ) → Kind → ℕ → ℕ
counts_at block k o = spot (block o) (slot k)

-- the funds that a cell with this handle keeps on word i, with t of them taken
abbrev pub worth : (ℕ → ℕ) → NumberedHandle → ℕ → ℕ → ℕ
worth block h t i = elim (h.object) [ None ↦ 0 | Some o ↦ cond (i == counts_at block h.kind o) (cell_funds - t) 0 ]

abbrev pub member_funds : (ℕ → ℕ) → (ℕ → ℕ) → Object → ℕ → ℕ
member_funds block taken x i =
    sum_below most_members (λ m. worth block (x.member m) (taken (spot x.block (7 + m))) i)

-- the funds that all cells keep on word i; taken j is how many were taken of the cell whose word is j
unfoldable pub bank : Opening → State → (ℕ → ℕ) → ℕ → ℕ
bank z s taken i =
    sum_below s.cells (λ c. worth (blocks_of s) (s.cell c) (taken (cell_spot z c)) i)
    + sum_below (suc s.made) (λ o. member_funds (blocks_of s) taken (s.object o) i)

-- what the state says of word k of block b, less what is owed to it, with what was brought to it
abbrev pub Says : Opening → State → (ℕ → ℕ) → (ℕ → ℕ) → ℕ → ℕ → ℕ → Type 0
Says z s owed more b k n =
    IsLoose z s b k n ⊎ (n + owed (spot b k) ≡ slice_index (block_words s b) k + more (spot b k))

-- the word that has block b's bit
abbrev pub shelf_spot : Opening → ℕ → ℕ
shelf_spot z b = shelf_place z.blocks z.cells (b / 64)

-- the bit of a block is 1 while the block is on the shelf
abbrev pub ShowsShelf : Opening → List ℕ → State → Type 0
ShowsShelf z words s =
    (b : ℕ) → b / 64 < shelf_words z.blocks → bit_at (slice_index words (shelf_spot z b)) (b % 64) ≡ on_shelf s b

-- each word is what the state says, but for what is owed to it and what is on it besides
pub record Shows (z : Opening) (words : List ℕ) (owed more : ℕ → ℕ) (s : State) : Type 0 where
  pub sized : length words ≡ all_words z.blocks z.cells
  pub blocks : (b k : ℕ) → InShape z b → k < 16 → Says z s owed more b k (slice_index words (spot b k))
  pub free : (c : ℕ) → c < z.cells → slice_index words (cell_spot z c)
      ≡ packed (blocks_of s) (s.cell c) + more (cell_spot z c)
  pub shelf : ShowsShelf z words s
