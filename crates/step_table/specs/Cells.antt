-- What a step finds in a cell. All of it is own.
use Rattle.std.specs.Prelude.{◌≡◌, ℕ, ◌<◌, ◌≤◌, slice_index, Option}
use Rattle.control_word.specs.Layout.{site_place}
use Rattle.control_word.specs.declared.packed.cell.CellWord.{CellWord}
use Rattle.control_word.specs.Events.{InHand, IsOpen, cell_of}
use Rattle.control_word.specs.declared.place.Block.{Block}
use Rattle.control_word.specs.Limits.{cell_funds}
use Rattle.control_word.specs.Packing.{IsCellWord, cell_bits}
use Rattle.control_word.specs.State.{State, weak_number}
use Rattle.control_word.specs.Words.{block_of, blocks_of}
use Rattle.control_word.specs.declared.site.Site.{Site}
use Rattle.control_word.specs.declared.site.Site.TheVariants.{Free, Member}
use Rattle.step_table.specs.CellAtomicSteps.{cell_in, handle_told, kind_in_state}
use Rattle.step_table.specs.GhostStates.{GhostState, model_state}

-- the cell is free, or a member of an object of which the desk has an owner
abbrev pub IsOpenTo : GhostState → ℕ → Site → Type 0
IsOpenTo v d c = IsOpen (model_state v) d (cell_in (model_state v) c)

-- the cell's word
abbrev pub word_of_cell : GhostState → Site → ℕ
word_of_cell v c = slice_index v.words (site_place v.extent.shape.blocks c)

-- the value is the cell's, and its word is the cell's word
pub record ShowsCell (v : GhostState) (c : Site) (x : CellWord) : Type 0 where
  pub valid : IsCellWord x
  pub few : x.taken ≤ cell_funds
  pub bits : word_of_cell v c ≡ cell_bits x
  pub holds : handle_told (model_state v) c x ≡ cell_of (model_state v) (cell_in (model_state v) c)

-- the value is of the cell's kind, and the desk has it or it has no object
abbrev pub HasInHand : GhostState → ℕ → Site → CellWord → Type 0
HasInHand v d c x = InHand (model_state v) d (kind_in_state (model_state v) c) (handle_told (model_state v) c x)

-- the cell is free, or a member of what is in a block that isn't vacant
abbrev pub IsCellInUse : GhostState → Site → Type 0
IsCellInUse v (Free n) = n < (model_state v).cells
IsCellInUse v (Member b m) = (m < 3) × (0 < weak_number (model_state v) ((model_state v).latest b.0))

-- the block of the object that the handle in a cell is on, if it is on one
abbrev pub target_of : State → Site → Option Block
target_of s c = block_of (blocks_of s) (cell_of s (cell_in s c)).object
