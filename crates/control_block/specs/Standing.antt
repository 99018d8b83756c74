-- What is true of every desk.
use Rattle.std.specs.Prelude.{◌≤◌, length}
use Rattle.control_word.specs.Histories.{IsLegal}
use Rattle.control_word.specs.Layout.{IsWithinLimits}
use Rattle.control_block.specs.Desks.{DeskNow, allowance_of, bag_of, endings_of, held_of}
use Rattle.control_block.specs.Rule.{opening_of}

module _ {V : Type 0} where
  -- its history is legal; it has as many handles as its bag lists and more empty ones, no more than its allowance; and
  -- of each block at most one object ends with it
  pub record Standing (d : DeskNow V) : Type 0 where
    pub legal : IsLegal (opening_of d.shape) d.seen
    pub limits : IsWithinLimits d.shape
    pub bag : length (bag_of d) ≤ d.held
    pub held : held_of d ≤ allowance_of d
    pub endings : endings_of d ≤ d.shape.blocks
