-- How a thread goes on from act to act. All of it is own.
use Rattle.std.specs.Prelude.{◌≡◌, ℕ, ◌+◌, ◌-◌, ◌<◌, ◌⊎◌, Bool, true, false, cond}
use Rattle.std.specs.Prelude.{not, ◌&&◌, List, [], ◌∷◌, length, drop, get_or, slice_set, Option, Some, None}
use Rattle.control_word.specs.declared.model.handle.Kind.{Kind}
use Rattle.control_word.specs.declared.shape.Shape.{Shape}
use Rattle.control_word.specs.declared.place.Block.{Block}
use Rattle.control_word.specs.State.{State}
use Rattle.step_threads.specs.declared.programs.act.Act.{Act}
use Rattle.step_table.specs.declared.memory.form.Form.{Form}
use Rattle.step_threads.specs.declared.programs.act.Act.TheVariants.{Make, Share, Downgrade, Lock, Put, Leave, Clear}
use Rattle.step_threads.specs.declared.programs.act.Act.TheVariants.{Count, Swap}
use Rattle.step_threads.specs.declared.programs.act.Act.TheVariants.{Expired, Read, FromThis, Alias, Move, Ask, Offer}
use Rattle.step_threads.specs.declared.programs.act.Act.TheVariants.{Exchange, Load, Compare, Holds, Drop, OnShelf}
use Rattle.step_threads.specs.declared.programs.act.Question.{Question}
use Rattle.step_threads.specs.declared.programs.act.Question.TheVariants as question
use Rattle.step_threads.specs.declared.programs.act.Task.{Task}
use Rattle.step_threads.specs.declared.programs.call.CellName.{CellName}
use Rattle.step_threads.specs.declared.programs.call.CellName.TheVariants as cell
use Rattle.control_word.specs.declared.site.Site.{Site}
use Rattle.control_word.specs.declared.site.Site.TheVariants.{Free, Member}
use Rattle.step_threads.specs.declared.frame.Frame.{Frame}
use Rattle.step_table.specs.declared.cell_steps.compares.Comparing.{Comparing}
use Rattle.step_table.specs.Contents.{is_of}
use Rattle.step_threads.specs.declared.ending.Ending.{Ending}
use Rattle.step_table.specs.AtomicSteps.{on}
use Rattle.step_table.specs.Registers.{HoldsBag, Slots, inside, is_full, plain, pointer_of, slot_pointer, slot_value}
use Rattle.step_table.specs.Registers.{weak_slot}
use Rattle.control_word.specs.declared.model.view.Pending.TheVariants.{Idle}
use Rattle.control_word.specs.declared.handle.Handle.{Handle}
use Rattle.step_table.specs.declared.memory.ghost_history.AtomicStep.{AtomicStep}
use Rattle.step_table.specs.declared.slots.slot.Slot.{Slot}
use Rattle.step_threads.specs.Programs.{IsIn, kind_at}
use Rattle.step_table.specs.GhostStates.{GhostState, ghost_after_step, pending}

-- the last slot, for what an act takes
abbrev pub hand : Slots → ℕ
hand slots = length slots - 1

-- the one before it, behind those of the names, for what is to be dropped at the end of its statement
abbrev pub other : Slots → ℕ
other slots = length slots - 2

-- the object is there whose member the cell is: the name owns it and points into it
abbrev pub is_there : Slots → CellName → Bool
is_there slots (cell.Member k m) = is_full (inside (slot_pointer slots k.0))
is_there slots _ = true

-- the block of that object; 0, which no object is in, where there is none
abbrev pub block_at : Slots → ℕ → Block
block_at slots k = on (λ (x : Handle). x.block) (record { 0 = 0 }) (inside (slot_pointer slots k))

-- the cell in the table: the weak ones stand behind the shared ones
abbrev pub cell_of_name : State → Slots → CellName → Site
cell_of_name s slots (cell.Shared n) = Free n
cell_of_name s slots (cell.Weak n) = Free (s.shared + n)
cell_of_name s slots (cell.Member k m) = Member (block_at slots k.0) m

-- what is taken of a value for a cell of a kind
abbrev pub fitting : Kind → Slot → Slot
fitting k x = cond (is_of k x) x plain

-- the pointer that is taken of a name for a cell that is there
abbrev pub offered : Slots → ℕ → CellName → Option Handle
offered slots k c = cond (is_there slots c) (pointer_of (fitting (kind_at c) (slot_value slots k))) None

-- a cell that is swapped, and the slot whose value goes in
abbrev pub Going : Type 0
Going = CellName × ℕ

abbrev pub going_from : Slots → CellName → ℕ → Option Going
going_from slots c k = cond (is_there slots c && is_of (kind_at c) (slot_value slots k)) (Some (c, k)) None

-- those of an act, where the cell is there and the value may go in
abbrev pub going : Slots → Act → Option Going
going slots (Swap c) = going_from slots c (hand slots)
going slots (Exchange k c) = going_from slots c k
going slots _ = None

abbrev pub on_going : {A : Type 0} → (CellName → ℕ → A) → A → Option Going → A
on_going f none None = none
on_going f none (Some x) = f x.0 x.1

-- the value that an act puts into a cell, or would
abbrev pub new_of : Slots → Act → Slot
new_of slots (Swap c) = slot_value slots (hand slots)
new_of slots (Exchange k c) = slot_value slots k
new_of slots (Compare k c weak) = slot_value slots (hand slots)
new_of slots _ = plain

-- what is in hand goes into a cell that is equivalent to slot k, and what the cell held is to be dropped; else what is
-- in hand is
abbrev pub comparing : Slots → ℕ → Bool → Comparing
comparing slots k weak = record { expected = k; new = hand slots; other = other slots; weak = weak }

abbrev pub no_form : Form
no_form = record { fields = []; enabled = false; null = false }

-- what an act makes, where it makes an object
abbrev pub form_of : Act → Form
form_of (Make form) = form
form_of _ = no_form

-- the weak handle that an act locks
abbrev pub locked_pointer : Slots → Act → Option Handle
locked_pointer slots (Lock k must) = weak_slot (slot_pointer slots k)
locked_pointer slots _ = None

-- the cell is there, and what was taken may go in
abbrev pub is_offered : Slots → Bool → CellName → Bool
is_offered slots taken c = taken && is_there slots c && is_of (kind_at c) (slot_value slots (hand slots))

-- and so may what it is compared with
abbrev pub is_compared : Slots → Bool → ℕ → CellName → Bool
is_compared slots taken k c = is_offered slots taken c && is_of (kind_at c) (slot_value slots k)

-- a task that is no act where it comes
abbrev pub idle : Act → Slots → Bool → Bool
idle (Put k) slots taken = not (taken && is_full (slot_pointer slots k))
idle (Clear k) slots taken = not (is_full (slot_pointer slots k))
idle (Swap c) slots taken = not (is_offered slots taken c)
idle (Compare k c weak) slots taken = not (is_compared slots taken k c)
idle Drop slots taken = not (is_full (slot_pointer slots (other slots)))
idle _ slots taken = false

-- the value of slot i goes to slot k
abbrev pub slot_passed : ℕ → ℕ → Slots → Slots
slot_passed i k slots = slice_set (slice_set slots k (slot_value slots i)) i plain

-- the value in hand is in slot k
abbrev pub placed : ℕ → Slots → Slots
placed k slots = slot_passed (hand slots) k slots

-- what a task leaves that is idle: what is in hand and goes nowhere is to be dropped
abbrev pub slots_idle : Act → Slots → Bool → Slots
slots_idle (Put k) slots taken = cond taken (placed k slots) slots
slots_idle (Swap c) slots taken = cond taken (placed (other slots) slots) slots
slots_idle (Compare k c weak) slots taken = cond taken (placed (other slots) slots) slots
slots_idle Drop slots taken = slice_set slots (other slots) plain
slots_idle _ slots taken = slots

abbrev pub taken_idle : Act → Bool → Bool
taken_idle (Put k) taken = false
taken_idle (Swap c) taken = false
taken_idle (Compare k c weak) taken = false
taken_idle _ taken = taken

-- where a thread is: what it holds, the objects that end in its hands, the one begun last first, and its tasks
pub record FrameView : Type 0 where
  pub slots : Slots
  pub taken : Bool
  pub endings : List Ending
  pub todo : List Task

-- the thread at its next act
abbrev pub frame_settled : Slots → Bool → List Ending → List Task → FrameView
frame_settled slots taken endings [] = record { slots = slots; taken = taken; endings = endings; todo = [] }
frame_settled slots taken endings (t ∷ ts) =
    cond (idle t.act slots taken) (frame_settled (slots_idle t.act slots taken) (taken_idle t.act taken) endings ts)
    (record { slots = slots; taken = taken; endings = endings; todo = t ∷ ts })

-- a question about some of n names
abbrev pub IsAbout : ℕ → Question → Type 0
IsAbout n (question.Place k) = k < n
IsAbout n (question.Same i j) = (i < n) × (j < n)
IsAbout n (question.Before i j) = (i < n) × (j < n)

-- the cell is free, or a member of the object of one of n names
abbrev pub IsNamed : ℕ → CellName → Type 0
IsNamed n (cell.Member k m) = k.0 < n
IsNamed n _ = Unit {0}

-- an act that may come with n names, where something was taken or not
abbrev pub MayComeNext : ℕ → Bool → Act → Type 0
MayComeNext n taken (Make form) = (taken ≡ false) × (length form.fields ≡ 4)
MayComeNext n taken (Share k) = (k < n) × (taken ≡ false)
MayComeNext n taken (Put k) = k < n
MayComeNext n taken (Leave k) = (k < n) × (taken ≡ false)
MayComeNext n taken (Clear k) = (k < n) × (taken ≡ false)
MayComeNext n taken (Count k) = k < n
MayComeNext n taken (Downgrade k) = (k < n) × (taken ≡ false)
MayComeNext n taken (Lock k must) = (k < n) × (taken ≡ false)
MayComeNext n taken (Expired k) = k < n
MayComeNext n taken (Read k) = k < n
MayComeNext n taken (FromThis k kind) = (k < n) × (taken ≡ false)
MayComeNext n taken (Alias k j field) = (k < n) × (j < n) × (taken ≡ false)
MayComeNext n taken (Move k) = (k < n) × (taken ≡ false)
MayComeNext n taken (Ask q) = IsAbout n q
MayComeNext n taken (Offer k c) = (k < n) × IsNamed n c × (taken ≡ false)
MayComeNext n taken (Swap c) = IsNamed n c
MayComeNext n taken (Exchange k c) = (k < n) × IsNamed n c × (taken ≡ false)
MayComeNext n taken (Load c) = IsNamed n c × (taken ≡ false)
MayComeNext n taken (Compare k c weak) = (k < n) × IsNamed n c
MayComeNext n taken (Holds k c) = (k < n) × IsNamed n c
MayComeNext n taken Drop = taken ≡ false
MayComeNext n taken (OnShelf x) = Unit {0}

abbrev pub taken_after : Act → Bool → Bool
taken_after (Make form) taken = true
taken_after (Share k) taken = true
taken_after (Downgrade k) taken = true
taken_after (Lock k must) taken = true
taken_after (FromThis k kind) taken = true
taken_after (Alias k j field) taken = true
taken_after (Move k) taken = true
taken_after (Offer k c) taken = true
taken_after (Load c) taken = true
taken_after (Compare k c weak) taken = true
taken_after (Put k) taken = false
taken_after (Swap c) taken = false
taken_after _ taken = taken

-- an act drops what is to be dropped, or puts what was taken into a name before that
abbrev pub dropping : Type 0 → Act → Type 0
dropping later Drop = Unit {0}
dropping later (Put k) = later
dropping later _ = ⊥

-- what is to be dropped is, before another act fills its slot
abbrev pub DropsInTime : List Task → Type 0
DropsInTime [] = ⊥
DropsInTime (t ∷ ts) = dropping (DropsInTime ts) t.act

abbrev pub MayFollow : Act → List Task → Type 0
MayFollow (Swap c) ts = DropsInTime ts
MayFollow (Compare k c weak) ts = DropsInTime ts
MayFollow _ ts = Unit {0}

-- the tasks may come with n names, where something was taken or not; at the end nothing is taken
abbrev pub TasksMayCome : ℕ → Bool → List Task → Type 0
TasksMayCome n taken [] = taken ≡ false
TasksMayCome n taken (t ∷ ts) = MayComeNext n taken t.act × MayFollow t.act ts
    × TasksMayCome n (taken_after t.act taken) ts

-- the shape has the cell of an act
abbrev pub HasCell : Shape → Act → Type 0
HasCell z (Offer k c) = IsIn z c
HasCell z (Swap c) = IsIn z c
HasCell z (Exchange k c) = IsIn z c
HasCell z (Load c) = IsIn z c
HasCell z (Compare k c weak) = IsIn z c
HasCell z (Holds k c) = IsIn z c
HasCell z _ = Unit {0}

-- an object ends, and what came out of one of its members is in hand
abbrev pub IsCarried : Slots → List Ending → Type 0
IsCarried slots [] = ⊥
IsCarried slots (e ∷ es) = is_full (slot_pointer slots (hand slots)) ≡ true

-- what a thread relies on
pub record IsReady (slots : Slots) (taken : Bool) (endings : List Ending) (todo : List Task) : Type 0 where
  pub some : 1 < length slots
  pub free : taken ≡ false → (slot_value slots (hand slots) ≡ plain) ⊎ IsCarried slots endings
  pub owes : (slot_value slots (other slots) ≡ plain) ⊎ DropsInTime todo
  pub ready : TasksMayCome (other slots) taken todo

abbrev pub no_task : Task
no_task = record { statement = 0; act = Count 0 }

abbrev pub todo : Frame → List Task
todo c = drop c.at c.tasks.items

abbrev pub task_at : Frame → Task
task_at c = get_or c.tasks.items c.at no_task

abbrev pub frame_view : Frame → FrameView
frame_view c = record { slots = c.registers.slots.items; taken = c.taken; endings = c.endings.list; todo = todo c }

abbrev pub FrameReady : Frame → Type 0
FrameReady c = IsReady c.registers.slots.items c.taken c.endings.list (todo c)

abbrev pub FrameStill : Frame → Type 0
FrameStill c = c.at < length c.tasks.items → idle (task_at c).act c.registers.slots.items c.taken ≡ false

-- the thread is at an act, no object ends in its hands, and no call of its desk is half done
pub record CanAct (d : ℕ) (c : Frame) (v : GhostState) : Type 0 where
  pub seat : d < v.extent.actors
  pub idle : pending v d ≡ Idle
  pub holds : HoldsBag d c.registers.slots.items v
  pub within : c.at < length c.tasks.items
  pub ready : FrameReady c
  pub still : FrameStill c
  pub ended : c.endings.list ≡ []
  pub cell : HasCell v.extent.shape (task_at c).act

-- the tasks after the next one
abbrev pub rest : Frame → List Task
rest c = drop (c.at + 1) c.tasks.items

-- the atomic step is done where the slot holds something
abbrev pub done_on : (Handle → AtomicStep) → GhostState → ℕ → Option Handle → GhostState
done_on f v d None = v
done_on f v d (Some x) = ghost_after_step v d (f x)
