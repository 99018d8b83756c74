-- A handle as the word of a cell (own).
use Rattle.std.specs.Prelude.{◌≡◌, ℕ, true, Option}
use Rattle.control_word.specs.Handles.{equivalent, handle}
use Rattle.control_word.specs.Packing.{IsCellWord, cell_bits}
use Rattle.control_word.specs.declared.model.handle.Kind.{Kind}
use Rattle.control_word.specs.declared.packed.cell.CellWord.{CellWord}
use Rattle.control_word.specs.declared.place.Block.{Block}
use Rattle.control_word.specs.declared.place.Place.{Place}

-- What a handle is: the block of the object that it is on, if it has one, and where it points
pub record HandleNow : Type 0 where
  pub block : Option Block
  pub place : Option Place

-- a cell that holds a handle, of whose funds none was taken
abbrev pub cell_of_handle : HandleNow → CellWord
cell_of_handle h = record { owned = h.block; place = h.place; taken = 0 }

-- the handle that a cell holds
abbrev pub handle_of_cell : CellWord → HandleNow
handle_of_cell x = record { block = x.owned; place = x.place }

-- its word
abbrev pub handle_bits : HandleNow → ℕ
handle_bits h = cell_bits (cell_of_handle h)

-- The blocks and the field are those that a domain may have
abbrev pub IsHandleNow : HandleNow → Type 0
IsHandleNow h = IsCellWord (cell_of_handle h)

module _ (object : Option Block → Option ℕ) (k j : Kind) (a b : HandleNow) where
  -- the two are equivalent, where the block tells the object ([util.smartptr.atomic.shared])
  abbrev AreEquivalent : Type 0
  AreEquivalent = equivalent (handle k (object a.block) a.place) (handle j (object b.block) b.place) ≡ true

-- Handles of one word are equivalent
abbrev pub EqualWordsAreEquivalent : Type 0
EqualWordsAreEquivalent =
    (object : Option Block → Option ℕ) (k j : Kind) (a b : HandleNow) → IsHandleNow a → IsHandleNow b
    → handle_bits a ≡ handle_bits b → AreEquivalent object k j a b

-- Equivalent handles have one word, where no two blocks have one object
abbrev pub EquivalentHaveOneWord : Type 0
EquivalentHaveOneWord =
    (object : Option Block → Option ℕ) → ((x y : Option Block) → object x ≡ object y → x ≡ y)
    → (k j : Kind) (a b : HandleNow) → AreEquivalent object k j a b → handle_bits a ≡ handle_bits b
