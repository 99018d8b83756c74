-- What a call by which nothing ends leaves of a desk.
use Rattle.std.specs.Prelude.{◌≡◌, ℕ, List}
use Rattle.control_word.specs.declared.model.handle.NumberedHandle.{NumberedHandle}
use Rattle.control_block.specs.Desks.{DeskNow, Keeps, bag_of}

module _ {V : Type 0} where
  -- this bag, and so many handles
  pub record Outcome (d : DeskNow V) (l : List NumberedHandle) (n : ℕ) (e : DeskNow V) : Type 0 where
    pub bag : bag_of e ≡ l
    pub held : e.held ≡ n
    pub keeps : Keeps d e
