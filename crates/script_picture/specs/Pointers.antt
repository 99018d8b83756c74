-- The pointers that a thread and the cells have after an act. All of it is own.
use Rattle.std.specs.Prelude.{◌≡◌, ℕ, ◌+◌, ◌-◌, ◌++◌, Bool, true, false, List, [], ◌∷◌, Option, Some}
use Rattle.std.specs.Prelude.{None}
use Rattle.std.specs.List.{flat_map}
use Rattle.control_word.specs.declared.handle.Handle.{Handle}
use Rattle.control_word.specs.declared.model.handle.Kind.{Kind}
use Rattle.control_word.specs.declared.model.handle.Kind.TheVariants.{Owner, Weak}
use Rattle.control_word.specs.declared.packed.counts.Counts.{Counts}
use Rattle.control_word.specs.declared.place.Block.{Block}
use Rattle.control_word.specs.declared.site.Site.{Site}
use Rattle.control_word.specs.declared.site.Site.TheVariants.{Free, Member}
use Rattle.control_word.specs.State.{State}
use Rattle.leak_report.specs.Holders.{free_cells, holds_owner, member}
use Rattle.run_picture.specs.declared.picture.Holder.TheVariants.{Cell, Name}
use Rattle.run_picture.specs.declared.picture.Pointer.{Pointer}
use Rattle.step_core.specs.Totals.{census_of}
use Rattle.step_table.specs.Cells.{target_of}
use Rattle.step_table.specs.GhostStates.{GhostState}
use Rattle.step_table.specs.Registers.{slot_pointer}
use Rattle.step_threads.specs.AbstractStates.{AbstractState, frame_of, state_in}
use Rattle.step_threads.specs.Stocks.{from}

-- the world has the free cells of a script
abbrev pub HasCells : GhostState → Type 0
HasCells v = free_cells v.extent.shape ≡ 256

abbrev pub is_owner : Kind → Bool
is_owner Owner = true
is_owner Weak = false

-- what a slot of a thread has, if it has a pointer
abbrev pub slot_of : ℕ → ℕ → Option Handle → List Pointer
slot_of thread number None = []
slot_of thread number (Some h) =
    (record { holder = Name thread number; block = h.block.0; is_owner = is_owner h.kind }) ∷ []

abbrev pub in_slot : AbstractState → ℕ → ℕ → List Pointer
in_slot c thread number =
    slot_of thread number (slot_pointer (frame_of c (thread - 1)).slots number)

-- what a cell has, if it has a pointer
abbrev pub cell_of : Site → Option Block → List Pointer
cell_of cell None = []
cell_of cell (Some b) =
    (record { holder = Cell cell; block = b.0; is_owner = holds_owner 128 cell }) ∷ []

abbrev pub in_cell : State → Site → List Pointer
in_cell s cell = cell_of cell (target_of s cell)

abbrev pub in_free : State → ℕ → List Pointer
in_free s number = in_cell s (Free number)

-- what the members of an object have: first, next and up. A vacant block has none
abbrev pub in_members : State → ℕ → Option Counts → List Pointer
in_members s b None = []
in_members s b (Some counts) =
    in_cell s (member b 0) ++ in_cell s (member b 1) ++ in_cell s (member b 2)

abbrev pub in_block : State → ℕ → List Pointer
in_block s b = in_members s b (census_of s b)

-- all pointers that a thread has, in its names, then what it is about to drop and what is in hand,
-- and that the cells have: the free ones, and the members of all objects
abbrev pub pointers_after : AbstractState → ℕ → List Pointer
pointers_after c thread =
    flat_map (in_slot c thread) (from 0 34)
    ++ (flat_map (in_free (state_in c)) (from 0 256)
    ++ flat_map (in_block (state_in c)) (from 1 c.extent.shape.blocks))
