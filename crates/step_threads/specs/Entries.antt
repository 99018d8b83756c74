-- Histories of threads' desks, and what a thread is answered that compares a cell. All of it is own.
pub use Rattle.step_threads.specs.Shelving.{least, lesser}
use Rattle.std.specs.Prelude.{ℕ, Bool, cond, List, Option, Some, None}
use Rattle.control_word.specs.declared.model.event.Entry.{Entry}
use Rattle.control_word.specs.Handles.{equivalent}
use Rattle.control_word.specs.State.{State}
use Rattle.step_threads.specs.declared.programs.call.CellName.{CellName}
use Rattle.step_table.specs.CellAtomicSteps.{kind_in_state}
use Rattle.step_table.specs.declared.cell_steps.cell_step.CellStep.TheVariants as cell_step
use Rattle.step_table.specs.declared.memory.ghost_history.AtomicStep.{AtomicStep}
use Rattle.step_table.specs.declared.memory.ghost_history.AtomicStep.TheVariants as atomic_step
use Rattle.step_table.specs.Contents.{as_word, held_in, named_handle}
use Rattle.step_table.specs.Registers.{Slots, slot_value}
use Rattle.step_table.specs.GhostStates.{Nothing}
use Rattle.step_threads.specs.Frames.{cell_of_name}
use Rattle.step_threads.specs.Rows.{may_go}

abbrev pub History : Type 0
History = List (Entry Nothing)

-- equivalent: both store the same place, and own or share the same object or none ([util.smartptr.atomic.shared],
-- [util.smartptr.atomic.weak], `compare_exchange_strong`)
abbrev pub is_expected : State → Slots → ℕ → CellName → Bool
is_expected s slots k c = let x = cell_of_name s slots c in
    equivalent (held_in s x) (named_handle s (kind_in_state s x) (slot_value slots k))

-- a look tells whether a cell holds what slot k does, where the cell is there and that may go into it
abbrev pub holds_step : State → Slots → ℕ → CellName → Option AtomicStep
holds_step s slots k c =
    cond (may_go slots c k)
    (Some (atomic_step.OnCell (cell_step.Holds (cell_of_name s slots c) (as_word (slot_value slots k))
    (is_expected s slots k c))))
    None
