-- How a world begins. All of it is own.
pub use Rattle.step_threads.specs.Interleavings.{first_frame, no_slots}
use Rattle.std.specs.Prelude.{◌≡◌, ◌+◌, ◌*◌, ◌<◌, ◌≤◌, List, [], All, length, map, replicate}
use Rattle.control_word.specs.declared.shape.Shape.{Shape}
use Rattle.control_word.specs.Layout.{IsWithinLimits, table_size}
use Rattle.control_word.specs.Views.{fresh}
use Rattle.step_threads.specs.declared.programs.call.Call.{Call}
use Rattle.step_threads.specs.declared.programs.call.Call.TheVariants.{Make, MakeThis, Shelve}
use Rattle.step_table.specs.declared.memory.extent.Extent.{Extent}
use Rattle.step_table.specs.Openings.{world_blocks, world_cells}
use Rattle.step_threads.specs.declared.pending_call.PendingCall.{PendingCall}
use Rattle.step_threads.specs.declared.pending_call.PendingCall.TheVariants.{Rest}
use Rattle.step_threads.specs.Programs.{AllHaveCells, IsProgram, Part}
use Rattle.step_core.specs.Worlds.{WorldState}
use Rattle.step_table.specs.GhostStates.{GhostState}

-- a world of this shape may run the program: both are within the limits of worlds, objects have two owner members and a
-- weak one, each actor has 40 handles or more, and the shape has the cells of all calls
pub record CanBegin (shape : Shape) (parts : List Part) : Type 0 where
  pub limits : IsWithinLimits shape
  pub blocks : shape.blocks ≤ world_blocks
  pub free_cells : shape.shared_cells + shape.weak_cells ≤ world_cells
  pub members : (shape.owners ≡ 2) × (shape.weaks ≡ 1)
  pub program : IsProgram parts
  pub enough : 40 * length parts ≤ shape.allowance
  pub cells : All (AllHaveCells shape) parts

abbrev pub extent_of : Shape → List Part → Extent
extent_of shape parts = record { shape = shape; actors = length parts }

-- all words are 0, and nothing has happened
abbrev pub first_ghost : Extent → GhostState
first_ghost x = record { extent = x; words = replicate (table_size x.shape) 0; views = fresh 0 x.actors; history = [] }

-- nothing has happened and nothing has begun
abbrev pub first_world_state : Shape → List Part → WorldState
first_world_state shape parts =
    record {
      ghost_state = first_ghost (extent_of shape parts);
      frame_views = map first_frame parts;
      pending_calls = map {B = PendingCall} (λ (part : Part). Rest) parts;
    }

-- an object has four fields; a shelve is of so many blocks as a table may have
abbrev pub HasFields : Call → Type 0
HasFields (Make target fields) = length fields ≡ 4
HasFields (MakeThis target fields) = length fields ≡ 4
HasFields (Shelve n) = n < 65536
HasFields _ = Unit {0}

abbrev pub AllHaveFields : List Part → Type 0
AllHaveFields parts = All (λ (part : Part). All HasFields part.calls) parts
