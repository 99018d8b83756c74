-- What came of tries to take the top node (own).
use Rattle.std.specs.Prelude.{◌≡◌, ℕ, ◌+◌, List, [], ◌∷◌, Some}
use Rattle.control_word.specs.declared.model.event.Cell.{Cell}
use Rattle.control_word.specs.declared.model.handle.NumberedHandle.{NumberedHandle}
use Rattle.control_word.specs.Handles.{owner}
use Rattle.control_word.specs.declared.place.Place.{Place}
use Rattle.control_block.specs.Desks.{DeskNow}
use Rattle.control_block.specs.declared.handles.Shared.{Shared}
use Rattle.scene_structures.specs.Hands.{HasHands, node_in}
use Rattle.scene_structures.specs.Stacks.{FindsNone, Looks, PopsNode}
use Rattle.scene_structures.specs.declared.lists.pops.Tried.{Tried}
use Rattle.scene_structures.specs.declared.lists.pops.Tried.TheVariants.{Again, Found, Took}

module _ {V : Type 0} where
  -- the handle that came out is the node that went out of the cell
  pub record TakesNode (d : DeskNow V) (c : Cell) (h : Shared) (e : DeskNow V) : Type 0 where
    pub object : ℕ
    pub place : Place
    pub node : node_in e h ≡ owner object (Some place)
    pub takes : PopsNode d c object place e

  abbrev pub HandsAfter : List NumberedHandle → Tried → DeskNow V → Type 0
  HandsAfter base (Took h) e = HasHands base (h ∷ []) e
  HandsAfter base Found e = HasHands base [] e
  HandsAfter base (Again h) e = HasHands base (h ∷ []) e

  abbrev pub HeldAfter : DeskNow V → Tried → DeskNow V → Type 0
  HeldAfter d (Took h) e = e.held ≡ d.held
  HeldAfter d Found e = e.held + 1 ≡ d.held
  HeldAfter d (Again h) e = e.held ≡ d.held

  abbrev pub Tries : DeskNow V → Cell → Tried → DeskNow V → Type 0
  Tries d c (Took h) e = TakesNode d c h e
  Tries d c Found e = FindsNone d c e
  Tries d c (Again h) e = Looks d c h e
