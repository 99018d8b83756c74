-- What it says that a handle was stored into a cell.
use Rattle.std.specs.Prelude.{Option}
use Rattle.control_word.specs.declared.model.event.Cell.{Cell}
use Rattle.control_word.specs.declared.model.event.Event.TheVariants.{Swap}
use Rattle.control_word.specs.declared.model.handle.NumberedHandle.{NumberedHandle}
use Rattle.control_word.specs.declared.model.handle.Kind.{Kind}
use Rattle.control_word.specs.declared.place.Block.{Block}
use Rattle.control_word.specs.declared.place.Place.{Place}
use Rattle.control_block.specs.CellCalls.{handle_in}
use Rattle.control_block.specs.Clearing.{Lets}
use Rattle.control_block.specs.Desks.{AddsEvent, DeskNow}
use Rattle.control_block.specs.declared.released.Released.{Released}

module _ {V : Type 0} where
  -- a handle went into a cell; what the cell held came out, and left
  pub record Replaces (k : Kind) (d : DeskNow V) (cell : Cell) (new : NumberedHandle) (c : Option Block)
      (p : Option Place)
      (r : Released V) (e : DeskNow V) : Type 0 where
    pub between : DeskNow V
    pub swaps : AddsEvent d (Swap cell new (handle_in between k c p)) between
    pub lets : Lets k between c p r e
