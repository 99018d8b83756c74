-- What the calls on cells say of a desk. A handle goes by its kind, its block, if it has one, and its place.
use Rattle.std.specs.Prelude.{◌≡◌, ℕ, ◌+◌, ◌<◌, List, ◌∷◌, length, Option, None, Some}
use Rattle.control_word.specs.Handles.{handle, same_handle}
use Rattle.control_word.specs.State.{kind_of_free, kind_of_member, without}
use Rattle.control_word.specs.declared.model.event.Cell.{Cell}
use Rattle.control_word.specs.declared.model.event.Cell.TheVariants.{Free, Member}
use Rattle.control_word.specs.declared.model.handle.NumberedHandle.{NumberedHandle}
use Rattle.control_word.specs.declared.model.handle.Kind.{Kind}
use Rattle.control_word.specs.declared.model.handle.Kind.TheVariants.{Owner}
use Rattle.control_word.specs.declared.place.Block.{Block}
use Rattle.control_word.specs.declared.place.Place.{Place}
use Rattle.control_word.specs.declared.shape.Shape.{Shape}
use Rattle.control_block.specs.Desks.{DeskNow, HasHandle, bag_of, latest_of}
use Rattle.control_block.specs.Rule.{members_of}
use Rattle.control_word.specs.declared.site.Site.{Site}
use Rattle.control_word.specs.declared.site.Site.TheVariants as site

-- a bag with a handle more, and with one less; an empty handle stands in no bag
abbrev pub with_handle : Kind → Option Block → Option Place → List NumberedHandle → List NumberedHandle
with_handle k None p l = l
with_handle k (Some b) p l = handle k (Some b.0) p ∷ l

abbrev pub without_handle : Kind → Option Block → Option Place → List NumberedHandle → List NumberedHandle
without_handle k None p l = l
without_handle k (Some b) p l = without same_handle (handle k (Some b.0) p) l

-- the object that a function tells of a block, none without a block
abbrev pub object_by : (ℕ → ℕ) → Option Block → Option ℕ
object_by latest None = None
object_by latest (Some b) = Some (latest b.0)

-- free cell n of the shape has handles of this kind (own)
abbrev pub IsFreeCell : Shape → ℕ → Kind → Type 0
IsFreeCell z n k = (n < z.shared_cells + z.weak_cells) × (k ≡ kind_of_free z.shared_cells n)

module _ {V : Type 0} where
  -- the handle in a block is on the object last made there
  abbrev pub handle_in : DeskNow V → Kind → Option Block → Option Place → NumberedHandle
  handle_in d k b p = handle k (object_by (latest_of d) b) p

  -- the cell by the desk's history: a member is that of the object last made in the block
  abbrev pub cell_of_site : DeskNow V → Site → Cell
  cell_of_site d (site.Free n) = Free n
  cell_of_site d (site.Member b m) = Member (latest_of d b.0) m

  -- the cell is open to the desk, and has handles of this kind: it is free, or a member of an object that the desk has
  -- an owner of
  abbrev pub IsOpenAt : DeskNow V → Site → Kind → Type 0
  IsOpenAt d (site.Free n) k = IsFreeCell d.shape n k
  IsOpenAt d (site.Member b m) k = (m < members_of d.shape) × (k ≡ kind_of_member d.shape.owners m)
      × ((p : Option Place) × HasHandle d Owner p b.0)

  -- the desk has the handle: its bag shows it, or it is empty and among those that are counted beyond the bag
  abbrev pub HoldsHandle : DeskNow V → Kind → Option Block → Option Place → Type 0
  HoldsHandle d k None p = length (bag_of d) < d.held
  HoldsHandle d k (Some b) p = HasHandle d k p b.0
