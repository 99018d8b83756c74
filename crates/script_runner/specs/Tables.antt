-- What contracts see of a worker's table, and what is true of it between any two calls.
use Rattle.std.specs.Prelude.{◌≡◌, ℕ, cond, List, [], ◌∷◌, slice_get, Option, None, Some}
use Rattle.control_word.specs.Handles.{has_object}
use Rattle.control_word.specs.Views.{total}
use Rattle.control_word.specs.declared.model.handle.NumberedHandle.{NumberedHandle}
use Rattle.control_word.specs.declared.shape.Shape.{Shape}
use Rattle.control_block.specs.Desks.{DeskNow, DomainNow, bag_of}
use Rattle.control_block.specs.Parting.{as_listed}
use Rattle.control_block.specs.declared.handles.Held.{Held}
use Rattle.shared_handle.specs.Piles.{Bears}
use Rattle.shared_handle.specs.declared.endings.Ending.{Ending}
use Rattle.shared_handle.specs.declared.pile.Pile.{Pile}

-- a slot has a handle, or is vacant
abbrev pub Slot : Type 0
Slot = Option Held

-- what a slot's handle comes to, if it has an object
abbrev pub slot_worth : (NumberedHandle → ℕ) → Slot → ℕ
slot_worth f None = 0
slot_worth f (Some h) = cond (has_object (as_listed h)) (f (as_listed h)) 0

-- whether a slot has a handle, as a number
abbrev pub is_filled : Slot → ℕ
is_filled None = 0
is_filled (Some h) = 1

-- all slots are vacant
abbrev pub AllVacant : List Slot → Type 0
AllVacant [] = Unit {0}
AllVacant (s ∷ ss) = (s ≡ None) × AllVacant ss

-- an object of a domain of this shape has the members that one of a script has: two owners and a weak one
abbrev pub HasScriptMembers : Shape → Type 0
HasScriptMembers shape = (shape.owners ≡ 2) × (shape.weaks ≡ 1)

-- the domain that a brand names before one is picked for it
abbrev pub no_domain : DomainNow
no_domain = record {
  id = record { words = 0; slots = 0; views_name = 0; atom = 0; block = 0; offset = 0; slot_names = [] };
  shape = record { blocks = 0; owners = 0; weaks = 0; shared_cells = 0; weak_cells = 0; allowance = 0 };
}

-- the desk, the slots, and the objects that are left to end with it, the last one on top
pub record TableNow (V : Type 0) : Type 0 where
  pub desk : DeskNow V
  pub slots : List Slot
  pub endings : List (Ending V)

module _ {V : Type 0} where
  abbrev pub on_pile : Pile V → List (Ending V)
  on_pile p = p.endings.items

  -- a table by its parts
  abbrev pub with_pile : DeskNow V → List Slot → Pile V → TableNow V
  with_pile d ss p = record { desk = d; slots = ss; endings = on_pile p }

  -- the desk has just the handles in the slots: whatever is counted of them comes to the same in its bag
  pub record FitsSlots (d : DeskNow V) (ss : List Slot) : Type 0 where
    pub bag : (f : NumberedHandle → ℕ) → total f (bag_of d) ≡ total (slot_worth f) ss
    pub held : d.held ≡ total is_filled ss

  -- the table's domain is the one that its type names; the pile has what ends with the desk, and the slots its handles
  pub record IsWhole (named domain : DomainNow) (d : DeskNow V) (ss : List Slot) (p : Pile V) : Type 0 where
    pub home : domain ≡ named
    pub bears : Bears domain d p
    pub fits : FitsSlots d ss

  -- the slot has this handle
  abbrev pub IsAt : TableNow V → ℕ → Held → Type 0
  IsAt t i h = slice_get t.slots i ≡ Some (Some h)
