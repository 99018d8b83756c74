-- Handles that a call has in hand, above all others of its desk.
use Rattle.std.specs.Prelude.{◌≡◌, ℕ, ◌+◌, ◌<◌, ◌≤◌, List, [], ◌∷◌, length, Option, Some}
use Rattle.std.specs.Prelude.{None}
use Rattle.control_word.specs.Handles.{handle}
use Rattle.control_word.specs.State.{Has}
use Rattle.control_word.specs.declared.model.handle.NumberedHandle.{NumberedHandle}
use Rattle.control_word.specs.declared.model.handle.Kind.{Kind}
use Rattle.control_word.specs.declared.model.handle.Kind.TheVariants.{Owner}
use Rattle.control_word.specs.declared.place.Block.{Block}
use Rattle.control_word.specs.declared.place.Place.{Place}
use Rattle.control_word.specs.declared.shape.Shape.{Shape}
use Rattle.atomic_cells.specs.declared.sites.SharedSite.{SharedSite}
use Rattle.atomic_cells.specs.declared.sites.SharedSite.TheVariants.{Free, More, Of}
use Rattle.control_block.specs.CellCalls.{handle_in, with_handle}
use Rattle.control_block.specs.Desks.{DeskNow, bag_of, latest_of}
use Rattle.control_block.specs.declared.handles.Shared.{Shared}

-- these handles lie on a bag
abbrev pub stacked : List Shared → List NumberedHandle → List NumberedHandle
stacked [] base = base
stacked (h ∷ hs) base = with_handle Owner h.block h.place (stacked hs base)

-- the list has the owner, if that has an object
abbrev pub Lists : Option Block → Option Place → List NumberedHandle → Type 0
Lists None p l = Unit {0}
Lists (Some b) p l = Has (handle Owner (Some b.0) p) l

-- the cell is a free one of the shape, or a member of an object of which the list has an owner
abbrev pub IsOpenBy : List NumberedHandle → Shape → SharedSite → Type 0
IsOpenBy l z (Free n) = n < z.shared_cells
IsOpenBy l z (Of b m) = (p : Option Place) × Has (handle Owner (Some b.0) p) l
IsOpenBy l z (More b n) = ((p : Option Place) × Has (handle Owner (Some b.0) p) l) × (n + 2 < z.owners)

module _ {V : Type 0} where
  -- what the handle is, by the object that it is on
  abbrev pub node_in : DeskNow V → Shared → NumberedHandle
  node_in d h = handle_in d Owner h.block h.place

  -- the desk has just these above the others, and all are counted
  pub record HasHands (base : List NumberedHandle) (hs : List Shared) (d : DeskNow V) : Type 0 where
    pub bag : bag_of d ≡ stacked hs base
    pub few : length base + length hs ≤ d.held

  -- the handle is on the object that it was on
  abbrev pub SameNode : DeskNow V → Shared → DeskNow V → Type 0
  SameNode d h e = node_in e h ≡ node_in d h

  -- what the list has still is on the object that it was on
  abbrev pub KeepsThese : List NumberedHandle → DeskNow V → DeskNow V → Type 0
  KeepsThese l d e = (k : Kind) (p : Option Place) (b : ℕ) → Has (handle k (Some b) p) l
      → latest_of e b ≡ latest_of d b
