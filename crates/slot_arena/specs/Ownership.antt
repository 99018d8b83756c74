-- What a cell owns. `holds` is the right to free a block, `Allocator`'s member `dealloc_token`.
use Rattle.std.specs.Prelude.{None, Option, Some}
use mir.Syntax.{Ty}
use mir.Raw.{raw}
use base.Fraction.{full_share}
use base.Fml.{Fml, fsep, Lft}
use denote.RattleType.{RattleType}
use denote.Memory.{lone}
use denote.RawPtr.{Ptr, lies_at, room_for}
use denote.Sharing.{nothing}
use denote.Struct.Lending.{lent_at}

module _ (R : RattleType) where
  -- a cell's block: room for a value
  abbrev pub block_type : Ty
  block_type = raw (lone R.mir)

  -- the value, or the room for one
  abbrev pub content : Ptr → Option R.Denot → Fml
  content p None = room_for block_type p
  content p (Some x) = lies_at R full_share p x

  -- the right to free the block, for which the value's room must be there again
  abbrev pub block_owns : Ptr → (Ty → Ptr → Fml) → Fml
  block_owns p holds = holds block_type p

  abbrev pub cell_owns : Ptr → (Ty → Ptr → Fml) → Option R.Denot → Fml
  cell_owns p holds held = fsep (content p held) (block_owns p holds)

  -- a `&` to the cell is one to its value
  abbrev pub value_lent : Ptr → Option R.Denot → Lft → Fml
  value_lent p None = nothing
  value_lent p (Some x) = lent_at R p x
