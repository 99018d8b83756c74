-- Which cells a worker's acts reach, and what becomes of what was in hand. All of it is own.
use Rattle.std.specs.Prelude.{◌≡◌, ℕ, ◌-◌, ◌<◌, false, Option, None, slice_set}
use Rattle.control_word.specs.declared.model.handle.Kind.{Kind}
use Rattle.control_word.specs.declared.model.handle.Kind.TheVariants.{Owner}
use Rattle.script_runner.specs.Tables.{TableNow}
use Rattle.script_runner.specs.Kinds.{HasKind, slot_kinds}
use Rattle.script_runner.specs.declared.acts.act_result.ActResult.{ActResult}
use Rattle.step_threads.specs.declared.programs.call.CellName.{CellName}
use Rattle.step_threads.specs.declared.programs.call.CellName.TheVariants as cell

-- a cell that the domain has, or a member of what a name owns, which may be null or point elsewhere
abbrev pub IsReachable : TableNow ℕ → CellName → Type 0
IsReachable t (cell.Shared n) = n < t.desk.shape.shared_cells
IsReachable t (cell.Weak n) = n < t.desk.shape.weak_cells
IsReachable t (cell.Member k m) = HasKind t.slots k.0 Owner × (m < 3)

-- the hand is vacant, and of the other slots only the one before it may have become full or vacant, or have another
-- kind
abbrev pub SetsAside : ℕ → TableNow ℕ → TableNow ℕ → Type 0
SetsAside hand t u =
    (k : Option Kind) × (slot_kinds u.slots ≡ slice_set (slice_set (slot_kinds t.slots) hand None) (hand - 1) k)

-- what comes of an act that says nothing, with nothing in hand then
abbrev pub nothing : ActResult
nothing = record { taken = false; answer = None; ended = None }
