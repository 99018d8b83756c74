-- What cells hold, and how slots and the words of cells tell it. All of it is own.
use Rattle.std.specs.Prelude.{◌≡◌, ◌≢◌, ℕ, ◌<◌, ◌/◌, ◌==◌, ◌&&◌, length, Bool, true}
use Rattle.std.specs.Prelude.{false, slice_set, is_some, Option, Some, None}
use Rattle.control_word.specs.declared.packed.cell.CellWord.{CellWord}
use Rattle.control_word.specs.declared.model.event.Event.{Event}
use Rattle.control_word.specs.declared.model.event.Event.TheVariants as event
use Rattle.control_word.specs.declared.model.handle.NumberedHandle.{NumberedHandle}
use Rattle.control_word.specs.declared.model.handle.Kind.{Kind}
use Rattle.control_word.specs.declared.model.handle.Kind.TheVariants.{Owner, Weak}
use Rattle.control_word.specs.declared.place.Block.{Block}
use Rattle.control_word.specs.declared.place.Place.{Place}
use Rattle.control_word.specs.declared.model.view.Pending.{Pending}
use Rattle.control_word.specs.declared.model.view.Pending.TheVariants.{Idle}
use Rattle.control_word.specs.Events.{cell_of}
use Rattle.control_word.specs.Handles.{equivalent, handle, same_kind, same_place}
use Rattle.control_word.specs.State.{State}
use Rattle.control_word.specs.Words.{blocks_of, shown}
use Rattle.control_word.specs.declared.site.Site.{Site}
use Rattle.step_table.specs.declared.cell_steps.cell_step.Compared.{Compared}
use Rattle.step_table.specs.declared.cell_steps.compares.Comparing.{Comparing}
use Rattle.step_table.specs.declared.slots.slot.Slot.{Slot}
use Rattle.step_table.specs.declared.slots.slot.Slot.TheVariants.{Empty, Full}
use Rattle.step_table.specs.CellAtomicSteps.{cell_in, kind_in_state, owing_funds}
use Rattle.step_table.specs.Cells.{word_of_cell}
use Rattle.step_table.specs.AtomicSteps.{owned}
use Rattle.step_table.specs.Registers.{Slots, place_of, plain, slot_pointer, slot_value}
use Rattle.step_table.specs.GhostStates.{Nothing, GhostState, model_state}
use Rattle.control_word.specs.Limits.{cell_funds}
use Rattle.control_word.specs.Packing.{taken_in}

-- the handle in a cell
abbrev pub held_in : State → Site → NumberedHandle
held_in s c = cell_of s (cell_in s c)

-- a slot's value as histories name it; one without an object is of the kind of the cell that it is compared with or
-- goes into
abbrev pub named_handle : State → Kind → Slot → NumberedHandle
named_handle s k (Empty p) = handle k None p
named_handle s k (Full x) = handle x.kind (Some (owned s x)) x.place

-- a handle as a slot has it
abbrev pub slot_as : State → NumberedHandle → Option ℕ → Slot
slot_as s h None = Empty h.place
slot_as s h (Some o) = Full (record { kind = h.kind; block = record { 0 = (s.object o).block }; place = h.place })

abbrev pub slot_of : State → NumberedHandle → Slot
slot_of s h = slot_as s h h.object

-- a value that a cell's word tells, as a slot has it
abbrev pub slot_by : Kind → Option Block → Option Place → Slot
slot_by k None p = Empty p
slot_by k (Some b) p = Full (record { kind = k; block = b; place = p })

abbrev pub slot_in : Kind → CellWord → Slot
slot_in k x = slot_by k x.owned x.place

-- a slot's value may go into a cell of this kind: an empty weak pointer has a null place
abbrev pub is_null : Option Place → Bool
is_null None = true
is_null (Some p) = false

abbrev pub is_of : Kind → Slot → Bool
is_of Owner (Empty p) = true
is_of Weak (Empty p) = is_null p
is_of k (Full x) = same_kind x.kind k

-- what a cell holds, and how many of its funds were taken
abbrev pub seen : GhostState → Site → CellWord
seen v c = shown (blocks_of (model_state v)) (held_in (model_state v) c) (taken_in (word_of_cell v c))

-- the block of what a slot's value owns or shares
abbrev pub block_of_value : Slot → Option Block
block_of_value (Empty p) = None
block_of_value (Full x) = Some x.block

-- a slot's value as it goes into a cell
abbrev pub as_word : Slot → CellWord
as_word x = record { owned = block_of_value x; place = place_of x; taken = 0 }

-- what a compare expects, and what it wants to put there
abbrev pub compared_in : Slots → Comparing → Compared
compared_in slots y =
    record { expected = as_word (slot_value slots y.expected); new = as_word (slot_value slots y.new); weak = y.weak }

-- the same value, however many funds were taken
abbrev pub same_block : Option Block → Option Block → Bool
same_block None None = true
same_block None (Some y) = false
same_block (Some x) None = false
same_block (Some x) (Some y) = x.0 == y.0

abbrev pub same_value : CellWord → CellWord → Bool
same_value x y = same_block x.owned y.owned && same_place x.place y.place

-- the value has an object, and all of its funds were taken
abbrev pub is_spent : CellWord → Bool
is_spent x = is_some x.owned && x.taken == cell_funds

-- the funds that were brought for a slot's value, which goes into a cell: without an object there are none
abbrev pub owing_for : State → Slot → ℕ → Pending Nothing
owing_for s (Empty p) n = Idle
owing_for s (Full x) n = owing_funds s x.kind (Some x.block) x.place n 0

-- the value of slot i goes into a cell, and what the cell held comes into slot k
abbrev pub slots_swapped : ℕ → ℕ → Slots → Slot → Slots
slots_swapped i k slots x = slice_set (slice_set slots k x) i plain

-- what was to go in from slot i is in slot k, and what the cell holds is in its place
abbrev pub differed : ℕ → ℕ → Slots → Slot → Slots
differed i k slots x = slice_set (slice_set slots k (slot_value slots i)) i x

-- the slots are there: what is expected and what is to go in may go into a cell of this kind, and the other slot has no
-- object
pub record CanCompare (k : Kind) (slots : Slots) (y : Comparing) : Type 0 where
  pub expected : y.expected < length slots
  pub new : y.new < length slots
  pub other : y.other < length slots
  pub apart : y.new ≢ y.other
  pub empty : slot_pointer slots y.other ≡ None
  pub kinds : (is_of k (slot_value slots y.expected) ≡ true) × (is_of k (slot_value slots y.new) ≡ true)

-- the cell holds what a slot's value is: both store the same place, and own or share the same object or none
-- ([util.smartptr.atomic.shared], [util.smartptr.atomic.weak])
abbrev pub is_held : State → Site → Slot → Bool
is_held s c x = equivalent (held_in s c) (named_handle s (kind_in_state s c) x)

-- what steps on a cell tell, by what the cell holds and slots have
abbrev pub same_of : State → Site → Slot → Event Nothing
same_of s c x = event.Same (cell_in s c) (named_handle s (kind_in_state s c) x) (is_held s c x)

abbrev pub load_of : State → Site → Event Nothing
load_of s c = event.Load (cell_in s c) (held_in s c)

abbrev pub swap_of : State → Site → Slot → Event Nothing
swap_of s c x = event.Swap (cell_in s c) (named_handle s (kind_in_state s c) x) (held_in s c)

abbrev pub compare_of : State → Site → Slot → Slot → Bool → Event Nothing
compare_of s c expected new weak =
    let h = named_handle s (kind_in_state s c) expected in
    event.Compare (cell_in s c) h (named_handle s (kind_in_state s c) new) (held_in s c)
    (equivalent (held_in s c) h) weak
