-- What a compare-and-swap says ([util.smartptr.atomic.shared], [util.smartptr.atomic.weak]).
use Rattle.std.specs.Prelude.{◌≡◌, Bool, cond, List, true, false, Option}
use Rattle.control_word.specs.declared.model.event.Cell.{Cell}
use Rattle.control_word.specs.declared.model.event.Event.TheVariants.{Compare}
use Rattle.control_word.specs.declared.model.handle.NumberedHandle.{NumberedHandle}
use Rattle.control_word.specs.declared.model.handle.Kind.{Kind}
use Rattle.control_word.specs.declared.place.Block.{Block}
use Rattle.control_word.specs.declared.place.Place.{Place}
use Rattle.control_block.specs.CellCalls.{handle_in, with_handle, without_handle}
use Rattle.control_block.specs.Desks.{AddsEvent, DeskNow}
use Rattle.atomic_cells.specs.declared.compared.Compared.{Compared}
use Rattle.atomic_cells.specs.declared.compared.Compared.TheVariants.{Differs, Swapped}

-- what was in the cell at the compare's step: the pointer itself or a copy
abbrev pub came_out : {H : Type 0} → Compared H → H
came_out (Swapped old) = old
came_out (Differs held desired) = held

abbrev pub has_swapped : {H : Type 0} → Compared H → Bool
has_swapped (Swapped old) = true
has_swapped (Differs held desired) = false

-- what didn't go in comes back (own)
abbrev pub GivesBackDesired : {H : Type 0} → H → Compared H → Type 0
GivesBackDesired d (Swapped old) = Unit {0}
GivesBackDesired d (Differs held desired) = desired ≡ d

-- a bag after a compare: where it swapped, (b, p) went out of it; and what the cell held, (c, q), is in it
abbrev pub bag_compared : Bool → Kind → Option Block → Option Place → Option Block → Option Place
    → List NumberedHandle → List NumberedHandle
bag_compared swapped k b p c q l = with_handle k c q (cond swapped (without_handle k b p l) l)

module _ {V : Type 0} where
  -- cell at was compared with (eb, ep): where it held an equivalent pointer, (b, p) went in, and (c, q) is what it
  -- held. The weak form may differ on an equivalent one
  abbrev pub Compares : DeskNow V → Cell → Kind → Option Block → Option Place → Option Block → Option Place
      → Bool → Option Block → Option Place → Bool
      → DeskNow V → Type 0
  Compares d at k eb ep b p swapped c q weak e =
      AddsEvent d (Compare at (handle_in d k eb ep) (handle_in d k b p) (handle_in e k c q) swapped weak) e
