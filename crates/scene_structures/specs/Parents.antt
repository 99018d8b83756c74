-- What a look for a node's parent says (own).
use Rattle.std.specs.Prelude.{◌≡◌, ℕ, ◌==◌, cond, is_some, Bool, Option, None, Some}
use Rattle.control_word.specs.Handles.{empty, owner}
use Rattle.control_word.specs.State.{State, count}
use Rattle.control_word.specs.declared.model.event.Cell.TheVariants.{Member}
use Rattle.control_word.specs.declared.model.handle.NumberedHandle.{NumberedHandle}
use Rattle.control_word.specs.declared.model.handle.Kind.TheVariants.{Owner, Weak}
use Rattle.control_word.specs.declared.place.Block.{Block}
use Rattle.control_word.specs.declared.place.Place.{Place}
use Rattle.control_word.specs.declared.refusal.Refusal.{Refusal}
use Rattle.control_word.specs.declared.refusal.Refusal.TheVariants.{Limit, Null, Outside}
use Rattle.control_block.specs.Desks.{DeskNow, state_of}
use Rattle.control_block.specs.declared.handles.Shared.{Shared}
use Rattle.shared_handle.specs.Calls.{LeavesWeakly}
use Rattle.shared_handle.specs.Endings.{IsOutside, IsWithin}
use Rattle.shared_handle.specs.Locks.{IsOwnerOf, LocksHandle}
use Rattle.atomic_cells.specs.Cells.{Loads}
use Rattle.scene_structures.specs.Hands.{SameNode, node_in}
use Rattle.scene_structures.specs.Scenes.{IsNearLimit}

-- an owner of what the handle is on, which points where that does, or an empty one where that has no owner
abbrev pub owner_of : State → NumberedHandle → NumberedHandle
owner_of s h = elim h.object [ None ↦ empty Owner | Some o ↦ cond (count s o == 0) (empty Owner) (owner o h.place) ]

module _ {V : Type 0} where
  -- why a node isn't looked at: the first of these
  abbrev pub WhyNoNode : DeskNow V → Option Block → Option Place → Refusal → Type 0
  WhyNoNode d b p Limit = IsNearLimit d
  WhyNoNode d b p Null = (IsNearLimit d → ⊥) × (p ≡ None)
  WhyNoNode d b p Outside = (IsNearLimit d → ⊥) × IsOutside b p
  WhyNoNode d b p why = ⊥

  -- and when it is
  abbrev pub IsNode : DeskNow V → Option Block → Option Place → Type 0
  IsNode d b p = (IsNearLimit d → ⊥) × IsWithin b p

  -- the object's `up` was loaded; what it held was locked, and this is what the lock got; and then the weak handle left
  pub record LocksUp (d : DeskNow V) (o : ℕ) (h : Shared) (e : DeskNow V) : Type 0 where
    pub block : Option Block
    pub place : Option Place
    pub loaded : DeskNow V
    pub loads : Loads d (Member o 2) Weak block place loaded
    pub locked : DeskNow V
    pub locks : LocksHandle loaded block place (is_some h.block) locked
    pub is : IsOwnerOf block place (is_some h.block) h
    pub same : SameNode locked h e
    pub vacant : Bool
    pub leaves : LeavesWeakly locked block place vacant e

  -- it is an owner of what the object's `up` is on, or empty where that has none
  abbrev pub IsParent : DeskNow V → ℕ → Shared → DeskNow V → Type 0
  IsParent d o h e = node_in e h ≡ owner_of (state_of d) (((state_of d).object o).member 2)
