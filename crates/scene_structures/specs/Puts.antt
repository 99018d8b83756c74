-- Where an event puts something.
use Rattle.std.specs.Prelude.{true}
use Rattle.control_word.specs.declared.model.event.Cell.{Cell}
use Rattle.control_word.specs.declared.model.event.Event.{Event}
use Rattle.control_word.specs.declared.model.event.Event.TheVariants.{Compare, Join, Split, Swap}

-- no cell
abbrev pub in_no_cell : Cell → Type 0
in_no_cell c = ⊥

module _ {V : Type 0} where
  -- what the event puts into a cell, it puts into one of these; and no desk comes or goes by it
  abbrev pub PutsOnly : (Cell → Type 0) → Event V → Type 0
  PutsOnly at (Swap c new old) = at c
  PutsOnly at (Compare c expected new h true weak) = at c
  PutsOnly at (Split to n hs bs) = ⊥
  PutsOnly at (Join other) = ⊥
  PutsOnly at _ = Unit {0}
