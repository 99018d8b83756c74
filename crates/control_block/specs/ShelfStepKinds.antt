-- What the steps on the shelf tell.
use Rattle.std.specs.Prelude.{◌≡◌, ℕ, ◌+◌, ◌/◌, ◌%◌, ◌<◌, ◌≤◌, List, ◌++◌, Option}
use Rattle.std.specs.Int.{bit_at}
use Rattle.atomic_table.specs.Table.{Step}
use Rattle.control_word.specs.declared.model.event.Entry.{Entry}
use Rattle.control_word.specs.declared.model.event.Event.TheVariants.{Shelve, Unshelve}
use Rattle.control_word.specs.declared.place.Block.{Block}
use Rattle.control_word.specs.declared.shape.Shape.{Shape}
use Rattle.control_word.specs.Histories.{IsLegal, leads}
use Rattle.control_word.specs.Layout.{shelf_place}
use Rattle.control_word.specs.State.{State, on_shelf}
use Rattle.control_word.specs.Views.{NoneBy}
use Rattle.control_block.specs.StepKinds.{At, tells}
use Rattle.control_block.specs.Rule.{opening_of}
use Rattle.control_block.specs.declared.table.SeatView.{SeatView}

-- where word j of the shelf lies
abbrev pub shelf_at : Shape → ℕ → ℕ
shelf_at k j = shelf_place k.blocks (k.shared_cells + k.weak_cells) j

-- n, as word j of the shelf, tells of each of its blocks whether it is there
abbrev pub IsShelfWord : ℕ → ℕ → State → Type 0
IsShelfWord j n s = (b : ℕ) → b / 64 ≡ j → bit_at n (b % 64) ≡ on_shelf s b

-- and of no others
abbrev pub HasBlocks : ℕ → ℕ → ℕ → Type 0
HasBlocks blocks j n = (b : ℕ) → b / 64 ≡ j → bit_at n (b % 64) ≡ 1 → (0 < b) × (b ≤ blocks)

-- the block isn't on the shelf
abbrev pub IsOff : ℕ → State → Type 0
IsOff b s = on_shelf s b ≡ 0

module _ {V : Type 0} where
  -- so it is where some legal history leads that goes on from what the desk has seen, with no event of the desk's
  pub record IsSo (v : SeatView V) (is : State → Type 0) : Type 0 where
    pub between : List (Entry V)
    pub quiet : NoneBy v.view.name between
    pub legal : IsLegal (opening_of v.shape) (between ++ v.view.seen)
    pub so : is (leads (opening_of v.shape) (between ++ v.view.seen))

  -- a word of the shelf was told, and the seat is as it was
  abbrev pub told_shelf : ℕ → Step (Option V) → At V → ℕ → At V → Type 0
  told_shelf j st m n m' = (m' ≡ m) × IsSo m.0 (IsShelfWord j n)

  -- a block of the store is on the shelf
  abbrev pub shelved : Block → Step (Option V) → At V → ℕ → At V → Type 0
  shelved b st m n m' = tells (Shelve b) m.0 m'.0 × (m'.1 ≡ m.1)

  -- the block is the desk's just where its bit was found set; else it was not there, and the seat is as it was
  abbrev pub unshelved : Block → Step (Option V) → At V → ℕ → At V → Type 0
  unshelved b st m n m' =
      (bit_at n (b.0 % 64) ≡ 1 → tells (Unshelve b) m.0 m'.0 × (m'.1 ≡ m.1))
      × (bit_at n (b.0 % 64) ≡ 0 → (m' ≡ m) × IsSo m.0 (IsOff b.0))
