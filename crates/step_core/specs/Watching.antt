-- How many funds of a cell may be taken. All of it is own.
use Rattle.std.specs.Prelude.{ℕ, ◌+◌, ◌<◌, ◌≤◌, ◌==◌, ◌&&◌, Bool, false, List}
use Rattle.std.specs.Prelude.{length}
use Rattle.std.specs.List.{filter}
use Rattle.control_word.specs.Layout.{site_place}
use Rattle.control_word.specs.Packing.{cell_bits, taken_in, without_taken}
use Rattle.control_word.specs.declared.shape.Shape.{Shape}
use Rattle.control_word.specs.declared.site.Site.{Site}
use Rattle.control_word.specs.declared.site.Site.TheVariants.{Free, Member}
use Rattle.step_threads.specs.declared.pending_call.PendingCall.{PendingCall}
use Rattle.step_threads.specs.declared.pending_call.PendingCall.TheVariants.{Refill}
use Rattle.step_table.specs.Cells.{word_of_cell}
use Rattle.step_table.specs.Refills.{is_low}
use Rattle.step_table.specs.GhostStates.{GhostState}

-- the thread has many funds to put back into the cell whose word lies there, and the word tells the value that they are
-- of
abbrev pub is_watching : ℕ → ℕ → ℕ → PendingCall → Bool
is_watching blocks place word (Refill stage c x k) = site_place blocks c == place && is_low x
    && without_taken (cell_bits x) == without_taken word
is_watching blocks place word _ = false

abbrev pub watchers : ℕ → ℕ → ℕ → List PendingCall → ℕ
watchers blocks place word pending_calls = length (filter (is_watching blocks place word) pending_calls)

-- a free cell of the shape, or a member of a block: no other words of a table are cells
abbrev pub IsCellOfShape : Shape → Site → Type 0
IsCellOfShape z (Free n) = n < z.shared_cells + z.weak_cells
IsCellOfShape z (Member b m) = (0 < b.0) × (b.0 ≤ z.blocks) × (m < 3)

-- of no cell of the shape more funds are taken than 127, and one for each thread that has them to put back
abbrev pub IsWatched : GhostState → List PendingCall → Type 0
IsWatched v pending_calls =
    let z = v.extent.shape in
    (c : Site) → IsCellOfShape z c → taken_in (word_of_cell v c) ≤ 127 + watchers z.blocks
    (site_place z.blocks c) (word_of_cell v c) pending_calls
