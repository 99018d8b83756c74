-- A free cell on which nobody else does anything.
use Rattle.std.specs.Prelude.{◌≡◌, ◌≢◌, ℕ, List, [], ◌∷◌, Option}
use Rattle.control_word.specs.declared.model.event.Cell.TheVariants.{Free}
use Rattle.control_word.specs.declared.model.event.Entry.{Entry}
use Rattle.control_word.specs.declared.model.event.Event.{Event}
use Rattle.control_word.specs.declared.model.event.Event.TheVariants.{Compare, Swap}
use Rattle.control_word.specs.declared.model.handle.Kind.TheVariants.{Owner}
use Rattle.control_word.specs.declared.place.Block.{Block}
use Rattle.control_word.specs.declared.place.Place.{Place}
use Rattle.control_block.specs.CellCalls.{handle_in}
use Rattle.control_block.specs.Desks.{DeskNow}
use Rattle.shared_handle.specs.Endings.{IsLeft}
use Rattle.shared_handle.specs.declared.endings.Left.{Left}
use Rattle.shared_handle.specs.declared.endings.Left.TheVariants.{Empty, Last, Others}
use Rattle.pointers.specs.Cells.{block_by, place_by}
use Rattle.pointers.specs.HandCalls.{LoadsNow, StoresNow}
use Rattle.pointers.specs.declared.known.Known.{Known}

module _ {V : Type 0} where
  -- the event changes nothing in free cell n
  abbrev pub IsElsewhere : ℕ → Event V → Type 0
  IsElsewhere n (Swap (Free c) new old) = n ≢ c
  IsElsewhere n (Compare (Free c) expected new h swapped weak) = n ≢ c
  IsElsewhere n _ = Unit {0}

  abbrev pub AllElsewhere : ℕ → List (Entry V) → Type 0
  AllElsewhere n [] = Unit {0}
  AllElsewhere n (x ∷ h) = IsElsewhere n x.event × AllElsewhere n h

  -- so it was of what came before the owner left
  abbrev pub LeftElsewhere : ℕ → (d : DeskNow V) (b : Option Block) (p : Option Place) (left : Left V) (e : DeskNow V)
      → IsLeft d b p left e → Type 0
  LeftElsewhere n d b p Empty e is = Unit {0}
  LeftElsewhere n d b p Others e is = AllElsewhere n is.2.between
  LeftElsewhere n d b p (Last x) e is = AllElsewhere n is.1.between

  -- a pointer went into the free cell, and what is there came back: it is that pointer, if no other desk came between
  pub record StoresAndLoads (d : DeskNow V) (n : ℕ) (new got : Option (Known V)) (e : DeskNow V) : Type 0 where
    pub middle : DeskNow V
    pub stores : StoresNow d (Free n) new middle
    pub loads : LoadsNow middle (Free n) got e
    pub finds : LeftElsewhere n stores.1.between stores.1.block stores.1.place stores.0 middle stores.1.leaves
        → AllElsewhere n loads.0.between
        → handle_in e Owner (block_by got) (place_by got) ≡ handle_in d Owner (block_by new) (place_by new)
