-- A thread of the machine, and how it fits the table. All of it is own.
use Rattle.std.specs.Prelude.{◌≡◌, ◌≢◌, ℕ, ◌<◌, ◌≤◌, ◌⊎◌, List, [], ◌∷◌, Bool, true}
use Rattle.std.specs.Prelude.{false, length, is_some, All, Option, Some, None}
use Rattle.std.specs.List.Sorted.{IsPermutation}
use Rattle.control_word.specs.declared.model.handle.Kind.{Kind}
use Rattle.control_word.specs.declared.model.handle.Kind.TheVariants.{Weak}
use Rattle.control_word.specs.declared.packed.cell.CellWord.{CellWord}
use Rattle.step_threads.specs.declared.programs.act.Act.{Act}
use Rattle.step_table.specs.declared.memory.form.Form.{Form}
use Rattle.step_threads.specs.declared.programs.act.Act.TheVariants.{Make, FromThis, Load, Compare}
use Rattle.step_threads.specs.declared.programs.act.Task.{Task}
use Rattle.step_threads.specs.declared.frame.Frame.{Frame}
use Rattle.step_threads.specs.declared.pending_call.PendingCall.{PendingCall}
use Rattle.step_threads.specs.declared.pending_call.PendingCall.TheVariants.{Rest, Making, Locking, Giving, Brought}
use Rattle.step_threads.specs.declared.pending_call.PendingCall.TheVariants.{Saw, Matched}
use Rattle.step_threads.specs.declared.pending_call.PendingCall.TheVariants.{Refill, Returning, Clearing}
use Rattle.step_threads.specs.declared.said.Stepped.{Stepped}
use Rattle.step_threads.specs.declared.thread.Thread.{Thread}
use Rattle.step_threads.specs.Actors.{PendingCallFits, Stocks}
use Rattle.step_threads.specs.Frames.{FrameReady, FrameStill, HasCell, form_of, going, hand, is_there}
use Rattle.step_threads.specs.Frames.{locked_pointer, new_of}
use Rattle.step_threads.specs.Frames.{task_at, frame_view}
use Rattle.control_word.specs.declared.handle.Handle.{Handle}
use Rattle.step_threads.specs.declared.ending.Ending.{Ending}
use Rattle.step_threads.specs.Endings.{EndsAll}
use Rattle.step_table.specs.Contents.{as_word, same_value}
use Rattle.step_table.specs.Registers.{HoldsBag, Slots, inside, is_full, pointer_of, slot_pointer, slot_value}
use Rattle.step_threads.specs.Stocks.{StoreView}
use Rattle.step_threads.specs.NextSteps.{answered, pending_call_by, step_at, ghost_by, frame_by}
use Rattle.step_table.specs.GhostStates.{GhostState}

-- what the next act makes, where it makes an object
abbrev pub form_at : Frame → Form
form_at c = form_of (task_at c).act

-- what was seen can be loaded: it has an object, and not all of its funds were taken
abbrev pub IsLoaded : CellWord → Type 0
IsLoaded x = (x.owned ≢ None) × (x.taken < 256)

-- the next act loads what was seen, or compares it
abbrev pub IsSeenBy : Slots → CellWord → Act → Type 0
IsSeenBy slots x (Load c) = (is_there slots c ≡ true) × IsLoaded x
IsSeenBy slots x (Compare k c weak) = (same_value x (as_word (slot_value slots k)) ≡ true) ⊎ IsLoaded x
IsSeenBy slots x _ = ⊥

-- it swaps what was seen, which is what it expects
abbrev pub IsMatchedBy : Slots → CellWord → Act → Type 0
IsMatchedBy slots x (Compare k c weak) = same_value x (as_word (slot_value slots k)) ≡ true
IsMatchedBy slots x _ = ⊥

-- the object that ends first has a member left, and nothing came out of one that is in hand
abbrev pub IsClearingMember : Slots → List Ending → Type 0
IsClearingMember slots [] = ⊥
IsClearingMember slots (e ∷ es) = (e.stage < 3) × (is_full (slot_pointer slots (hand slots)) ≡ false)

-- what the next act puts into a cell has an object
abbrev pub BringsFor : Frame → Type 0
BringsFor c = is_full (pointer_of (new_of c.registers.slots.items (task_at c).act)) ≡ true

-- a make, a lock, a pointer from this or an act on a cell that is under way is the next act, and no object ends
abbrev pub IsNext : PendingCall → Frame → Type 0
IsNext Rest c = Unit {0}
IsNext (Making b i differs) c = (c.at < length c.tasks.items) × ((task_at c).act ≡ Make (form_at c))
    × (c.endings.list ≡ [])
IsNext (Locking word) c = (c.at < length c.tasks.items)
    × (is_full (locked_pointer c.registers.slots.items (task_at c).act) ≡ true) × (c.endings.list ≡ [])
IsNext (Giving i kind x) c =
    (c.at < length c.tasks.items) × ((task_at c).act ≡ FromThis i kind)
    × (inside (slot_pointer c.registers.slots.items i) ≡ Some x) × (c.endings.list ≡ [])
IsNext Brought c = (c.at < length c.tasks.items) × (is_some (going c.registers.slots.items (task_at c).act) ≡ true)
    × (c.endings.list ≡ []) × BringsFor c
IsNext (Saw x) c = (c.at < length c.tasks.items) × IsSeenBy c.registers.slots.items x (task_at c).act
    × (c.endings.list ≡ [])
IsNext (Matched x) c = (c.at < length c.tasks.items) × IsMatchedBy c.registers.slots.items x (task_at c).act
    × (c.endings.list ≡ []) × BringsFor c
IsNext (Refill stage cell x k) c = Unit {0}
IsNext (Returning kind b funds k) c = Unit {0}
IsNext Clearing c = IsClearingMember c.registers.slots.items c.endings.list

-- the objects that end in a thread's hands are those of its endings; there is room for more, and nothing was taken
-- meanwhile
pub record EndsFit (d : ℕ) (c : Frame) (v : GhostState) : Type 0 where
  pub all : EndsAll d c.endings.list v
  pub roomy : v.extent.shape.blocks ≤ c.endings.room
  pub empty : (c.endings.list ≡ []) ⊎ (c.taken ≡ false)

-- between two steps the thread has what its desk has, and its half-done act is as its desk's view says
pub record FitsThread (d : ℕ) (t : Thread) (v : GhostState) : Type 0 where
  pub seat : d < v.extent.actors
  pub holds : HoldsBag d t.frame.registers.slots.items v
  pub within : t.frame.at ≤ length t.frame.tasks.items
  pub ready : FrameReady t.frame
  pub still : FrameStill t.frame
  pub pending_call : PendingCallFits d t.pending_call t.frame.registers.slots.items (task_at t.frame).act v
  pub next : IsNext t.pending_call t.frame
  pub stocks : Stocks d t.stock.blocks t.stock.room t.pending_call v
  pub endings : EndsFit d t.frame v
  pub cells : All (λ (x : Task). HasCell v.extent.shape x.act) t.frame.tasks.items

-- the thread has begun nothing, no object ends in its hands, and its next act is there
pub record BeginsAct (d : ℕ) (t : Thread) (v : GhostState) : Type 0 where
  pub fits : FitsThread d t v
  pub rest : t.pending_call ≡ Rest
  pub none : t.frame.endings.list ≡ []
  pub within : t.frame.at < length t.frame.tasks.items

-- the thread made its step, and the table is as that left it
pub record HasStepped (d : ℕ) (t : Thread) (v : GhostState) (r : Stepped) (t' : Thread) (v' : GhostState) : Type 0 where
  pub answer : r ≡ answered v d t.pending_call (frame_view t.frame)
  pub ghost_state : v' ≡ ghost_by v d (step_at v d t.pending_call (frame_view t.frame))
  pub place : frame_view t'.frame ≡ frame_by (frame_view t.frame) (step_at v d t.pending_call (frame_view t.frame))
  pub pending_call : t'.pending_call ≡ pending_call_by t.pending_call (step_at v d t.pending_call (frame_view t.frame))

-- the stock after a pointer left: a block that is vacant by it comes in
abbrev pub IsStocked : Kind → ℕ → Bool → StoreView → StoreView → Type 0
IsStocked Weak b true s s' = IsPermutation (b ∷ s.blocks) s'.blocks × (s.room ≤ s'.room)
IsStocked _ b last s s' = s' ≡ s

abbrev pub IsStockedBy : Option Handle → Bool → StoreView → StoreView → Type 0
IsStockedBy None last s s' = s' ≡ s
IsStockedBy (Some x) last s s' = IsStocked x.kind x.block.0 last s s'
