-- What an actor's slots hold is its desk's bag. All of it is own.
use Rattle.std.specs.Prelude.{◌≡◌, ℕ, ◌==◌, Bool, true, false, cond, List, length, get_or, Option, Some}
use Rattle.std.specs.Prelude.{None}
use Rattle.std.specs.List.{filter}
use Rattle.control_word.specs.declared.model.handle.NumberedHandle.{NumberedHandle}
use Rattle.control_word.specs.declared.model.handle.Kind.{Kind}
use Rattle.control_word.specs.declared.model.handle.Kind.TheVariants.{Owner, Weak}
use Rattle.control_word.specs.declared.place.Place.{Place}
use Rattle.control_word.specs.Handles.{same_handle, IsPointer}
use Rattle.control_word.specs.declared.place.Place.{Place}
use Rattle.control_word.specs.State.{State, bag_size, held, same_held}
use Rattle.control_word.specs.declared.handle.Handle.{Handle}
use Rattle.step_table.specs.declared.slots.slot.Slot.{Slot}
use Rattle.step_table.specs.declared.slots.slot.Slot.TheVariants.{Empty, Full}
use Rattle.step_table.specs.GhostStates.{GhostState, handle_in_block, model_state}

abbrev pub Slots : Type 0
Slots = List Slot

-- a default pointer: no object, and a null place ([util.smartptr.shared.const], [util.smartptr.weak.const])
abbrev pub plain : Slot
plain = Empty None

abbrev pub pointer_of : Slot → Option Handle
pointer_of (Empty p) = None
pointer_of (Full x) = Some x

-- an empty shared pointer may store a place ([util.smartptr.shared.const], the aliasing constructor)
abbrev pub place_of : Slot → Option Place
place_of (Empty p) = p
place_of (Full x) = x.place

abbrev pub filled : Option Handle → Slot
filled None = plain
filled (Some x) = Full x

abbrev pub slot_value : Slots → ℕ → Slot
slot_value slots i = get_or slots i plain

-- what a slot has of an object, and the place that it stores
abbrev pub slot_pointer : Slots → ℕ → Option Handle
slot_pointer slots i = pointer_of (slot_value slots i)

abbrev pub place_in : Slots → ℕ → Option Place
place_in slots i = place_of (slot_value slots i)

-- how often the desk has the handle
abbrev pub times_held : State → ℕ → NumberedHandle → ℕ
times_held s d h = length (filter (same_held (held d h)) s.hands)

abbrev pub is_it : GhostState → NumberedHandle → Slot → Bool
is_it v h (Empty p) = false
is_it v h (Full x) = same_handle h (handle_in_block v x.kind x.block x.place)

abbrev pub slot_has_object : Slot → Bool
slot_has_object (Empty p) = false
slot_has_object (Full x) = true

abbrev pub is_full : Option Handle → Bool
is_full None = false
is_full (Some x) = true

-- the weak handle in a slot, if there is one
abbrev pub weak_as : Kind → Handle → Option Handle
weak_as Owner x = None
weak_as Weak x = Some x

abbrev pub weak_slot : Option Handle → Option Handle
weak_slot None = None
weak_slot (Some x) = weak_as x.kind x

-- the owner in a slot, where it points into the object that it owns
abbrev pub into : Handle → Option Place → Option Handle
into x None = None
into x (Some p) = cond (p.block.0 == x.block.0) (Some x) None

abbrev pub inside_as : Kind → Handle → Option Handle
inside_as Owner x = into x x.place
inside_as Weak x = None

abbrev pub inside : Option Handle → Option Handle
inside None = None
inside (Some x) = inside_as x.kind x

-- the owner in a slot, if there is one
abbrev pub owner_as : Kind → Handle → Option Handle
owner_as Owner x = Some x
owner_as Weak x = None

abbrev pub owner_slot : Option Handle → Option Handle
owner_slot None = None
owner_slot (Some x) = owner_as x.kind x

-- how often the handle is in the slots, and how many slots are full
abbrev pub owns : GhostState → Slots → NumberedHandle → ℕ
owns v slots h = length (filter (is_it v h) slots)

abbrev pub full : Slots → ℕ
full slots = length (filter slot_has_object slots)

-- places in slots are well formed
abbrev pub IsSlot : Slot → Type 0
IsSlot x = IsPointer (place_of x)

-- the slots have just the handles of the desk's bag
pub record HoldsBag (d : ℕ) (slots : Slots) (v : GhostState) : Type 0 where
  pub owned : (h : NumberedHandle) → times_held (model_state v) d h ≡ owns v slots h
  pub size : bag_size (model_state v) d ≡ full slots
  pub formed : (i : ℕ) → IsSlot (slot_value slots i)
