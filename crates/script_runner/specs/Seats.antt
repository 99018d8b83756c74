-- What a thread has in its slots, by those of a table; and a call of the table that is an act of the thread. All of it
-- is own.
use Rattle.std.specs.Prelude.{◌≡◌, ◌⊎◌, ℕ, Bool, List, [], ◌∷◌, ◌++◌, map, take}
use Rattle.std.specs.Prelude.{length, ◌+◌, Option, None, Some}
use Rattle.std.specs.Prelude.{◌≤◌, slice_get}
use Rattle.control_block.specs.Desks.{AddsEvent, DeskNow, state_of, object_in}
use Rattle.control_block.specs.Standing.{Standing}
use Rattle.control_word.specs.declared.model.event.Event.{Event}
use Rattle.control_word.specs.declared.place.Block.{Block}
use Rattle.script_runner.specs.Parts.{kind_of_held, block_of_held, place_of_held}
use Rattle.script_runner.specs.Tables as table
use Rattle.script_runner.specs.Tables.{TableNow}
use Rattle.script_runner.specs.Calls.{state_before_event}
use Rattle.shared_handle.specs.Endings.{IsUncleared}
use Rattle.shared_handle.specs.declared.endings.Ending.{Ending}
use Rattle.step_table.specs.Contents.{slot_by}
use Rattle.step_table.specs.AtomicSteps.{remains}
use Rattle.step_table.specs.Registers.{Slots, plain}
use Rattle.step_table.specs.declared.memory.ended.Ended.{Ended}
use Rattle.step_table.specs.declared.memory.form.Form.{Form}
use Rattle.step_table.specs.declared.slots.slot.Slot.{Slot}
use Rattle.step_threads.specs.TraceLabels.{IsMakeEvent}
use Rattle.step_threads.specs.Rows.{Left, Reply, row}
use Rattle.step_threads.specs.declared.programs.act.Act.{Act}

-- a table's slot as a thread has it: a vacant one is empty
abbrev pub as_slot : table.Slot → Slot
as_slot None = plain
as_slot (Some h) = slot_by (kind_of_held h) (block_of_held h) (place_of_held h)

-- the first m slots
abbrev pub shown_slots : ℕ → List table.Slot → Slots
shown_slots m ss = map as_slot (take m ss)

module _ {V : Type 0} where
  -- the desk has seen no more
  pub record IsQuiet (d e : DeskNow V) : Type 0 where
    pub shape : e.shape ≡ d.shape
    pub name : e.name ≡ d.name
    pub seen : e.seen ≡ d.seen

  -- with these slots the desk made the act's event, in the state in which it stands, or its mark
  abbrev pub Done : (Form → V) → DeskNow V → Slots → Act → Reply → DeskNow V → Type 0
  Done worth d l a r e =
      (IsQuiet d e × IsMakeEvent worth (state_of d) d.name l a r None)
      ⊎ ((v : Event V) × (adds : AddsEvent d v e)
      × IsMakeEvent worth (state_before_event V adds) d.name l a r (Some v))

  -- the end of an object in this block begins, on top of the others
  abbrev pub Begun : List (Ending V) → Option Block → List (Ending V) → Type 0
  Begun xs None ys = ys ≡ xs
  Begun xs (Some b) ys = (x : Ending V) × (ys ≡ xs ++ x ∷ []) × (x.block ≡ b) × IsUncleared x

  -- by an act with this reply, of a thread that has the table's first m slots, the table became u
  pub record Acts (worth : Form → V) (m : ℕ) (t : TableNow V) (taken : Bool) (a : Act) (r : Reply)
      (u : TableNow V) : Type 0 where
    pub done : Done worth t.desk (shown_slots m t.slots) a r u.desk
    pub slots : shown_slots m u.slots ≡ (row a (shown_slots m t.slots) taken r).slots
    pub ends : Begun t.endings (row a (shown_slots m t.slots) taken r).ending u.endings

  -- the thread's hand is the last of its slots
  pub record IsSeated (m hand : ℕ) (t : TableNow V) : Type 0 where
    pub fits : table.FitsSlots t.desk t.slots
    pub stands : Standing t.desk
    pub many : m ≤ length t.slots
    pub last : hand + 1 ≡ m

  -- the thread may take something: its hand is the last of the slots, and vacant
  pub record IsHand (m hand : ℕ) (t : TableNow V) : Type 0 where
    pub fits : table.FitsSlots t.desk t.slots
    pub stands : Standing t.desk
    pub many : m ≤ length t.slots
    pub last : hand + 1 ≡ m
    pub vacant : slice_get t.slots hand ≡ Some None

module _ {V : Type 0} where
  -- what is told of the object that is left to end, if one is
  abbrev pub IsToldEnding : List (Ending V) → Option Ended → DeskNow V → List (Ending V) → Type 0
  IsToldEnding xs None e ys = ys ≡ xs
  IsToldEnding xs (Some r) e ys = (x : Ending V) × (ys ≡ xs ++ x ∷ []) × (r ≡ remains (object_in e x.block.0))

  -- by an act that leaves what slot i has
  pub record Leaving (worth : Form → V) (m : ℕ) (t : TableNow V) (taken : Bool) (a : Act)
      (u : TableNow V) : Type 0 where
    pub last : Bool
    pub left : Option Ended
    pub acts : Acts worth m t taken a (Left last left) u
    pub told : IsToldEnding t.endings left u.desk u.endings
