-- What a thread relies on that took a fund of a cell, until the cell is refilled. All of it is own.
use Rattle.std.specs.Prelude.{◌≡◌, ℕ, suc, Bool, ◌&&◌, Some, nat_lt, ◌≤◌}
use Rattle.control_word.specs.declared.packed.cell.CellWord.{CellWord}
use Rattle.control_word.specs.declared.model.handle.Kind.{Kind}
use Rattle.control_word.specs.declared.place.Block.{Block}
use Rattle.control_word.specs.declared.model.view.Pending.TheVariants.{Idle}
use Rattle.control_word.specs.Packing.{IsCellWord}
use Rattle.control_word.specs.State.{Has, held}
use Rattle.control_word.specs.declared.site.Site.{Site}
use Rattle.step_table.specs.declared.cell_steps.refill.Stage.{Stage}
use Rattle.step_table.specs.declared.cell_steps.refill.Stage.TheVariants.{Turning, Checking, Lacking, Refilling}
use Rattle.step_table.specs.declared.cell_steps.refill.Stage.TheVariants.{Failing}
use Rattle.step_table.specs.CellAtomicSteps.{kind_in_state, owing_funds}
use Rattle.step_table.specs.Cells.{IsOpenTo}
use Rattle.step_table.specs.Contents.{same_value}
use Rattle.step_table.specs.GhostStates.{GhostState, handle_in_block, pending, model_state}
use Rattle.control_word.specs.Limits.{cell_funds}

-- one fund more is taken
abbrev pub more_taken : CellWord → CellWord
more_taken x = record { owned = x.owned; place = x.place; taken = suc x.taken }

-- so many funds were taken that they are to be put back: half of them or more
abbrev pub is_low : CellWord → Bool
is_low x = nat_lt 127 x.taken

-- the cell holds the same value still, and so many of its funds were taken
abbrev pub is_drained : CellWord → CellWord → Bool
is_drained x found = same_value x found && is_low found

-- the funds that are out: the one that was taken, or those that were brought in place of all that were
abbrev pub StageFits : ℕ → Stage → Kind → Block → CellWord → GhostState → Type 0
StageFits d Turning k b x v = pending v d ≡ owing_funds (model_state v) k (Some b) x.place 1 1
StageFits d Checking k b x v = pending v d ≡ Idle
StageFits d Lacking k b x v = pending v d ≡ Idle
StageFits d Refilling k b x v = pending v d ≡ owing_funds (model_state v) k (Some b) x.place x.taken 0
StageFits d Failing k b x v = pending v d ≡ owing_funds (model_state v) k (Some b) x.place x.taken 0

-- the value has an object, the cell is open, and the desk has what it loaded
pub record RefillFits (d : ℕ) (stage : Stage) (c : Site) (x : CellWord) (v : GhostState) : Type 0 where
  pub valid : IsCellWord x
  pub few : x.taken ≤ cell_funds
  pub block : Block
  pub owned : x.owned ≡ Some block
  pub opens : IsOpenTo v d c
  pub has : Has (held d (handle_in_block v (kind_in_state (model_state v) c) block x.place)) (model_state v).hands
  pub pays : StageFits d stage (kind_in_state (model_state v) c) block x v
