-- Objects that end in the desk's hands elsewhere than on a structure's pile (own).
use Rattle.std.specs.Prelude.{◌≡◌, ℕ, ◌+◌, List, length}
use Rattle.control_block.specs.Desks.{DeskNow, StaysEnding, IsEnding, endings_of}
use Rattle.shared_handle.specs.Piles.{NotAmong}
use Rattle.shared_handle.specs.declared.endings.Ending.{Ending}

module _ {V : Type 0} where
  -- what ends in the desk's hands elsewhere than on the pile ends there still, with the members that it had, and
  -- elsewhere; as many objects as before
  pub record KeepsOthers (d : DeskNow V) (xs : List (Ending V)) (e : DeskNow V) (ys : List (Ending V))
      : Type 0 where
    pub count : endings_of e + length xs ≡ endings_of d + length ys
    pub still : (b : ℕ) (x : V) → IsEnding d b x → NotAmong b xs → NotAmong b ys × StaysEnding d e b x
