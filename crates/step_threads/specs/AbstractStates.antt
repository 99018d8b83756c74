-- What the acts of threads make of the history, act by act. All of it is own but the events, which name their sections.
use Rattle.std.specs.Prelude.{ℕ, Bool, true, false, not, cond, ◌&&◌, List, [], ◌∷◌, get_or, slice_set, Option, Some}
use Rattle.std.specs.Prelude.{None}
use Rattle.control_word.specs.declared.model.handle.Kind.{Kind}
use Rattle.control_word.specs.declared.model.handle.Kind.TheVariants.{Owner, Weak}
use Rattle.control_word.specs.Histories.{leads}
use Rattle.control_word.specs.State.{Object, Opening, State}
use Rattle.step_table.specs.declared.memory.ended.Ended.{Ended}
use Rattle.step_table.specs.declared.memory.extent.Extent.{Extent}
use Rattle.control_word.specs.declared.handle.Handle.{Handle}
use Rattle.step_table.specs.declared.slots.slot.Slot.{Slot}
use Rattle.step_table.specs.Contents.{held_in, slot_of}
use Rattle.step_table.specs.AtomicSteps.{Telling, exact, field_of, is_enabled, is_expired, is_last, on, owned}
use Rattle.step_table.specs.AtomicSteps.{pointer_before, remains}
use Rattle.step_table.specs.Registers.{Slots, inside, is_full, slot_pointer, weak_slot}
use Rattle.step_table.specs.Openings.{opening}
use Rattle.step_threads.specs.declared.ending.Ending.{Ending}
use Rattle.step_threads.specs.declared.programs.act.Act.{Act}
use Rattle.step_threads.specs.declared.programs.act.Act.TheVariants.{Make, Lock, Put, Leave, Clear, Count, Expired}
use Rattle.step_threads.specs.declared.programs.act.Act.TheVariants.{Read, FromThis, Ask, Swap, Exchange, Load}
use Rattle.step_threads.specs.declared.programs.act.Act.TheVariants.{Compare, Holds, Drop, OnShelf}
use Rattle.step_threads.specs.declared.programs.act.Question.{Question}
use Rattle.step_threads.specs.declared.programs.act.Question.TheVariants as question
use Rattle.step_threads.specs.declared.programs.act.ShelfAct.TheVariants.{Shelve, Unshelve}
use Rattle.step_threads.specs.declared.programs.act.Task.{Task}
use Rattle.step_threads.specs.declared.programs.call.CellName.{CellName}
use Rattle.step_threads.specs.Frames.{FrameView, cell_of_name, hand, other}
use Rattle.step_threads.specs.Entries.{History, least, is_expected}
use Rattle.step_threads.specs.Rows.{Reply, Plain, Found, Got, Told, Came, Compared, Left, Row, row}
use Rattle.step_threads.specs.Rows.{frame_after_act, may_go}
use Rattle.step_threads.specs.Unwinding.{Wound, unwound}

-- the history so far, and where each thread is
pub record AbstractState : Type 0 where
  pub extent : Extent
  pub history : History
  pub frame_views : List FrameView

-- what comes out of a cell
abbrev pub came : State → Slots → CellName → Slot
came s slots c = slot_of s (held_in s (cell_of_name s slots c))

-- a lock finds an owner, where there is a weak pointer and an owner is left ([util.smartptr.weak.obs], `lock`)
abbrev pub finds_owner : State → Option Handle → Bool
finds_owner s x = on (λ y. not (is_expired s y)) false x

-- what comes before the other; other questions are answered by the slots
abbrev pub answers_order : State → Slots → Question → Bool
answers_order s l (question.Before i j) = pointer_before s (slot_pointer l i) (slot_pointer l j)
answers_order s l _ = true

abbrev pub remains_as : Kind → Object → Option Ended
remains_as Owner x = Some (remains x)
remains_as Weak x = None

-- the object that ends where this pointer leaves
abbrev pub ended_by : State → Option Handle → Option Ended
ended_by s x = on (λ y. cond (is_last s y) (remains_as y.kind (s.object (owned s y))) None) None x

-- whether a pointer was the last that left, and what its object left
abbrev pub reply_to_leave : State → Option Handle → Reply
reply_to_leave s x = Left (on (is_last s) false x) (ended_by s x)

-- which reply an act gets in a state, where counts are told so
abbrev pub reply_in : Telling → State → ℕ → Slots → Act → Reply
reply_in tell s d l (Make form) = Found (least d s.stores)
reply_in tell s d l (Put k) = reply_to_leave s (slot_pointer l k)
reply_in tell s d l (Leave k) = reply_to_leave s (slot_pointer l k)
reply_in tell s d l (Clear k) = reply_to_leave s (slot_pointer l k)
reply_in tell s d l Drop = reply_to_leave s (slot_pointer l (other l))
reply_in tell s d l (Count k) = Told (on (tell s) 0 (slot_pointer l k))
reply_in tell s d l (Lock k must) = Got (finds_owner s (weak_slot (slot_pointer l k)))
reply_in tell s d l (Expired k) = Got (on (is_expired s) true (slot_pointer l k))
reply_in tell s d l (Read k) = Told (on (field_of s) 0 (inside (slot_pointer l k)))
reply_in tell s d l (FromThis k kind) = Got (on (is_enabled s) false (inside (slot_pointer l k)))
reply_in tell s d l (Ask q) = Got (answers_order s l q)
reply_in tell s d l (Swap c) = Came (came s l c)
reply_in tell s d l (Exchange k c) = Came (came s l c)
reply_in tell s d l (Load c) = Came (came s l c)
reply_in tell s d l (Compare k c weak) = Compared (is_expected s l k c) (came s l c)
reply_in tell s d l (Holds k c) = Got (may_go l c k && is_expected s l k c)
reply_in tell s d l (OnShelf Shelve) = Found (least d s.stores)
reply_in tell s d l (OnShelf (Unshelve b)) = Got (s.shelved b.0)
reply_in tell s d l _ = Plain

-- what a thread with these slots has, says and ends by an act in a state
abbrev pub row_in : Telling → State → ℕ → Slots → Bool → Act → Row
row_in tell s d l taken a = row a l taken (reply_in tell s d l a)

-- where the thread is by an act of statement k alone, with these tasks after it
abbrev pub went : State → ℕ → FrameView → ℕ → List Task → Act → FrameView
went s d w k ts a = frame_after_act w k ts (row_in exact s d w.slots w.taken a)

-- what came out of a member of an ending object leaves before all else
abbrev pub next_of : Slots → List Ending → List Task → Option Task
next_of slots (e ∷ es) ts = Some (record { statement = e.statement; act = Leave (hand slots) })
next_of slots [] [] = None
next_of slots [] (t ∷ ts) = Some t

-- the next act of a thread whose endings have gone on by themselves
abbrev pub next : FrameView → Option Task
next w = next_of w.slots w.endings w.todo

-- the tasks after it
abbrev pub rest_of : List Ending → List Task → List Task
rest_of (e ∷ es) ts = ts
rest_of [] [] = []
rest_of [] (t ∷ ts) = ts

abbrev pub nowhere : FrameView
nowhere = record { slots = []; taken = false; endings = []; todo = [] }

abbrev pub frame_of : AbstractState → ℕ → FrameView
frame_of c d = get_or c.frame_views d nowhere

abbrev pub state_in : AbstractState → State
state_in c = leads (opening c.extent) c.history

-- a thread's endings go on by themselves, unless what came out of a member is in hand
abbrev pub rested_frame : Opening → ℕ → History → FrameView → Wound
rested_frame z d h w =
    cond (is_full (slot_pointer w.slots (hand w.slots))) (record { history = h; slots = w.slots; endings = w.endings })
    (unwound z d w.slots w.endings h)

abbrev pub put_frame : AbstractState → ℕ → FrameView → Wound → AbstractState
put_frame c d w x =
    record {
      extent = c.extent;
      history = x.history;
      frame_views = slice_set c.frame_views d
          (record { slots = x.slots; taken = w.taken; endings = x.endings; todo = w.todo });
    }

-- the abstract state once thread d's endings have gone on by themselves
abbrev pub rested : ℕ → AbstractState → AbstractState
rested d c = let w = frame_of c d in put_frame c d w (rested_frame (opening c.extent) d c.history w)
