-- Vacant blocks of a desk, and what is left to end with it (own).
use Rattle.std.specs.Prelude.{◌≡◌, ℕ, ◌-◌, ◌≤◌, length}
use Rattle.control_block.specs.Desks.{DeskNow, endings_of, stock_of}
use Rattle.control_block.specs.Shelf.{Shelved, Unshelved}
use Rattle.pointers.specs.Known.{GoesOn}

module _ {V : Type 0} where
  -- since the desk was opened it did this: it was one desk, and became the other
  pub record SinceOpened (o : DeskNow V) (Does : DeskNow V → DeskNow V → Type 0) : Type 0 where
    pub before : DeskNow V
    pub after : DeskNow V
    pub goes : GoesOn o before
    pub does : Does before after

  -- all its vacant blocks, so many, went to the shelf
  pub record ShelvesAll (n : ℕ) (d e : DeskNow V) : Type 0 where
    pub shelves : Shelved n d e
    pub none : length (stock_of e) ≡ 0

  -- so many blocks of the shelf came to its reserve of two
  pub record Fills (n : ℕ) (d e : DeskNow V) : Type 0 where
    pub takes : Unshelved n d e
    pub few : n ≤ 2 - length (stock_of d)

  -- it went on, and nothing was left to end with it
  pub record Settles (d e : DeskNow V) : Type 0 where
    pub goes : GoesOn d e
    pub none : endings_of e ≡ 0
