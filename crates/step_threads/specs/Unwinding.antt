-- How far the ends of objects come by themselves. All of it is own but the events.
use Rattle.std.specs.Prelude.{ℕ, zero, suc, ◌-◌, ◌==◌, cond, List, [], ◌∷◌, slice_set, Option, Some}
use Rattle.std.specs.Prelude.{None}
use Rattle.control_word.specs.declared.model.event.Event.TheVariants as event
use Rattle.control_word.specs.Handles.{has_object}
use Rattle.control_word.specs.Histories.{entry, leads}
use Rattle.control_word.specs.State.{Opening, weak}
use Rattle.step_table.specs.Contents.{slot_of}
use Rattle.step_threads.specs.declared.ending.Ending.{Ending}
use Rattle.step_threads.specs.Frames.{hand}
use Rattle.step_table.specs.Registers.{Slots}
use Rattle.step_table.specs.declared.slots.slot.Slot.{Slot}
use Rattle.step_threads.specs.Entries.{History}

-- how far the end of an object comes by itself: to a member that held an object, with so many members behind it, or to
-- its end
pub record Stop : Type 0 where
  pub history : History
  pub out : Option (ℕ × Slot)

-- a member of an ending object is cleared
abbrev pub history_clears : Opening → ℕ → ℕ → ℕ → History → History
history_clears z d o m h = entry d (event.ClearMember o m (((leads z h).object o).member m)) ∷ h

-- an object ends: its members that are left are cleared in order, up to one that held an object; with none left it is
-- finished
abbrev pub stops : Opening → ℕ → ℕ → ℕ → History → Stop
stops z d o zero h = record { history = entry d (event.Finish o (weak (leads z h) o == 0) tt) ∷ h; out = None }
stops z d o (suc k) h =
    let s = leads z h in
    let x = (s.object o).member (2 - k) in
    cond (has_object x) (record { history = history_clears z d o (2 - k) h; out = Some (k, slot_of s x) })
    (stops z d o k (history_clears z d o (2 - k) h))

-- how far a thread's endings come by themselves
pub record Wound : Type 0 where
  pub history : History
  pub slots : Slots
  pub endings : List Ending

-- the first ending came to its end, and the others went on, or a member's handle is in hand
abbrev pub unwinds_on : Ending → List Ending → History → Slots → Wound → Option (ℕ × Slot) → Wound
unwinds_on e es h slots others None = others
unwinds_on e es h slots others (Some p) =
    record {
      history = h;
      slots = slice_set slots (hand slots) p.1;
      endings = record { block = e.block; stage = 3 - p.0; statement = e.statement } ∷ es;
    }

-- the endings go on, the last begun first, until a member's handle is in hand or none is left
abbrev pub unwound : Opening → ℕ → Slots → List Ending → History → Wound
unwound z d slots [] h = record { history = h; slots = slots; endings = [] }
unwound z d slots (e ∷ es) h =
    let c = stops z d ((leads z h).latest e.block.0) (3 - e.stage) h in
    unwinds_on e es c.history slots (unwound z d slots es c.history) c.out
