-- Which calls of a table on cells are which acts of a thread. Events name their sections in the model; the rest is own.
use Rattle.std.specs.Prelude.{◌≡◌, ℕ, ◌<◌, Bool, None, Some, ◌+◌, true, false, slice_get}
use Rattle.control_block.specs.declared.handles.Held.{Held}
use Rattle.control_word.specs.declared.refusal.Refusal.{Refusal}
use Rattle.script_runner.specs.SlotCalls as calls
use Rattle.script_runner.specs.Cells as cells
use Rattle.script_runner.specs.Compares as compares
use Rattle.script_runner.specs.Parts.{kind_of_held}
use Rattle.script_runner.specs.Tables.{IsAt, TableNow}
use Rattle.script_runner.specs.Seats.{Acts, IsHand, IsSeated, IsQuiet, Leaving, shown_slots}
use Rattle.script_runner.specs.TableCalls.{MarksAct}
use Rattle.step_table.specs.Registers.{plain}
use Rattle.step_table.specs.declared.memory.form.Form.{Form}
use Rattle.step_table.specs.declared.slots.slot.Slot.{Slot}
use Rattle.step_threads.specs.Frames.{idle, slots_idle}
use Rattle.step_threads.specs.Programs.{IsIn, kind_at}
use Rattle.step_threads.specs.Rows.{Came, Got, Plain, Compared}
use Rattle.step_threads.specs.declared.programs.act.Act.TheVariants as act
use Rattle.step_threads.specs.declared.programs.call.CellName.TheVariants as cell
use Rattle.step_threads.specs.declared.programs.call.CellName.{CellName}
use Rattle.step_threads.specs.declared.said.Answer.TheVariants as answer

-- the name of the object whose member the cell is, is one of so many
abbrev pub IsOfName : ℕ → CellName → Type 0
IsOfName n (cell.Member k m) = k.0 < n
IsOfName n _ = Unit {0}

module _ (V : Type 0) where
  -- a copy of what a cell holds comes into the hand ([util.smartptr.atomic.shared], [util.smartptr.atomic.weak])
  abbrev pub LoadsIn : Type 0
  LoadsIn =
      (worth : Form → V) (m hand : ℕ) (taken : Bool) (t u : TableNow V) (c : CellName)
      → IsHand m hand t → IsSeated m hand u → IsIn t.desk.shape c → IsOfName m c
      → cells.LoadsIntoSlot t c hand u
      → (x : Slot) × Acts worth m t taken (act.Load c) (Came x) u

  -- what a slot has goes into a cell, and what that held comes into the slot
  abbrev pub ExchangesIn : Type 0
  ExchangesIn =
      (worth : Form → V) (m i hand : ℕ) (taken : Bool) (t u : TableNow V) (c : CellName)
      → IsSeated m hand t → IsSeated m hand u → i < hand → IsIn t.desk.shape c → IsOfName m c
      → cells.ExchangesSlot t i c u
      → (x : Slot) × Acts worth m t taken (act.Exchange i c) (Came x) u

  -- a cell is asked whether it holds what a slot has
  abbrev pub HoldsIn : Type 0
  HoldsIn =
      (worth : Form → V) (m i hand : ℕ) (taken : Bool) (t u : TableNow V) (c : CellName) (same : Bool)
      → IsSeated m hand t → i < m → IsIn t.desk.shape c → IsOfName m c
      → cells.TellsSlotHeld t c i same u
      → Acts worth m t taken (act.Holds i c) (Got same) u

  -- a copy of what a slot has is to go into a cell that is there
  abbrev pub OffersIn : Type 0
  OffersIn =
      (worth : Form → V) (m i hand : ℕ) (taken : Bool) (t u : TableNow V) (c : CellName)
      → IsHand m hand t → i < m → IsIn t.desk.shape c → IsOfName m c
      → cells.NamesCell t c → (h : Held) → IsAt t i h → kind_of_held h ≡ kind_at c
      → calls.Copies t i hand u
      → Acts worth m t taken (act.Offer i c) Plain u

  -- What is in hand goes into a cell that is equivalent to slot k, and what the cell held leaves at once. To a thread
  -- these are two acts: the comparison, by which it has what the cell held, and then it drops that, where it has an
  -- object ([util.smartptr.atomic.shared], [util.smartptr.atomic.weak])
  pub record ByCompare (worth : Form → V) (m k : ℕ) (t u : TableNow V) (c : CellName) (weak : Bool) : Type 0 where
    pub between : TableNow V
    pub held : Slot
    pub compares : Acts worth m t true (act.Compare k c weak) (Compared true held) between
    pub after : TableNow V
    pub same : (after.desk ≡ u.desk) × (shown_slots m after.slots ≡ shown_slots m u.slots)
        × (after.endings ≡ u.endings)
    pub drops : idle act.Drop (shown_slots m between.slots) false ≡ false
        → Leaving worth m between false act.Drop after
    pub passes : idle act.Drop (shown_slots m between.slots) false ≡ true
        → IsQuiet between.desk after.desk
        × (shown_slots m after.slots ≡ slots_idle act.Drop (shown_slots m between.slots) false)
        × (after.endings ≡ between.endings)

  abbrev pub ComparesIn : Type 0
  ComparesIn =
      (worth : Form → V) (m k hand other : ℕ) (t u : TableNow V) (c : CellName) (weak : Bool)
      → IsSeated m hand t → other + 1 ≡ hand → k < other → slice_get t.slots other ≡ Some None
      → IsIn t.desk.shape c → IsOfName m c → compares.ComparesSlots weak t c k hand true u
      → (idle (act.Compare k c weak) (shown_slots m t.slots) true ≡ false)
      × ByCompare worth m k t u c weak

  -- The cell isn't equivalent, or a weak comparison failed: what it holds is assigned to slot k, and what was in hand
  -- goes to the slot of what is to be dropped. To a thread these are two acts as well: the comparison, by which it has
  -- a copy of what the cell holds, and then it puts that into slot k, where slot k has an object
  pub record ByDiffering (worth : Form → V) (m k : ℕ) (t u : TableNow V) (c : CellName) (weak : Bool) : Type 0 where
    pub between : TableNow V
    pub held : Slot
    pub compares : Acts worth m t true (act.Compare k c weak) (Compared false held) between
    pub puts : idle (act.Put k) (shown_slots m between.slots) true ≡ false
        → Leaving worth m between true (act.Put k) u
    pub passes : idle (act.Put k) (shown_slots m between.slots) true ≡ true
        → IsQuiet between.desk u.desk
        × (shown_slots m u.slots ≡ slots_idle (act.Put k) (shown_slots m between.slots) true)
        × (u.endings ≡ between.endings)

  abbrev pub DiffersIn : Type 0
  DiffersIn =
      (worth : Form → V) (m k hand other : ℕ) (t after u : TableNow V) (c : CellName) (weak : Bool)
      → IsSeated m hand t → other + 1 ≡ hand → k < other → slice_get t.slots other ≡ Some None
      → IsIn t.desk.shape c → IsOfName m c → compares.ComparesSlots weak t c k hand false after
      → calls.MovesSlot after hand other u
      → (idle (act.Compare k c weak) (shown_slots m t.slots) true ≡ false)
      × ByDiffering worth m k t u c weak

  -- A cell is none of the thread's: its name owns no object that it points into. The acts that would copy a value for
  -- it, exchange one with it, load from it or ask what it holds are marks, with this answer
  pub record RefusesCell (worth : Form → V) (m : ℕ) (t : TableNow V) (taken : Bool) (c : CellName)
      (r : Refusal) : Type 0 where
    pub offer : (i : ℕ) → MarksAct V worth m t taken (act.Offer i c) Plain (answer.Refused r)
    pub exchange : (i : ℕ) → MarksAct V worth m t taken (act.Exchange i c) (Came plain) (answer.Refused r)
    pub load : MarksAct V worth m t taken (act.Load c) (Came plain) (answer.Refused r)
    pub holds : (i : ℕ) → MarksAct V worth m t taken (act.Holds i c) (Got false) (answer.Refused r)

  abbrev pub CellsNot : Type 0
  CellsNot =
      (worth : Form → V) (m hand : ℕ) (taken : Bool) (t : TableNow V) (c : CellName) (r : Refusal)
      → IsSeated m hand t → IsOfName m c → cells.WhyNoCell t.slots c r
      → RefusesCell worth m t taken c r
