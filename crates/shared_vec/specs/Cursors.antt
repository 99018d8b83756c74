-- What a cursor keeps (own).
use Rattle.std.specs.Prelude.{ℕ, Option, None, Some}
use Rattle.control_block.specs.Desks.{DeskNow}
use Rattle.pointers.specs.Sites.{Site}
use Rattle.pointers.specs.declared.known.Known.{Known}
use Rattle.shared_vec.specs.Vectors.{IsLeaf}

module _ {V : Type 0} (o : DeskNow V) where
  -- the leaf of an index, or nothing
  abbrev pub IsKept : Site V → ℕ → Option (Known V) → Type 0
  IsKept s i None = Unit {0}
  IsKept s i (Some leaf) = IsLeaf o s i (Some leaf)
