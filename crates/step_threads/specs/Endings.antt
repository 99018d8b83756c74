-- The objects that end in a thread's hands. All of it is own.
use Rattle.std.specs.Prelude.{◌≡◌, ℕ, ◌+◌, ◌<◌, ◌≤◌, ◌==◌, cond, List, [], ◌∷◌, All}
use Rattle.std.specs.Prelude.{Option, Some, None, sum_by, ◌*◌, ◌-◌}
use Rattle.control_word.specs.Handles.{empty}
use Rattle.control_word.specs.State.{ending, kind_of_member}
use Rattle.step_threads.specs.declared.ending.Ending.{Ending}
use Rattle.step_table.specs.GhostStates.{GhostState, object_of_block, model_state}

-- the endings that are under way, the one begun last first, and how many there may be
pub record Stack : Type 0 where
  pub list : List Ending
  pub room : ℕ

abbrev pub first_of : List Ending → Option Ending
first_of [] = None
first_of (e ∷ es) = Some e

-- an ending with one more member cleared
abbrev pub staged : Ending → Ending
staged e = record { block = e.block; stage = e.stage + 1; statement = e.statement }

abbrev pub staged_first : List Ending → List Ending
staged_first [] = []
staged_first (e ∷ es) = staged e ∷ es

-- how many endings are of the object in a block
abbrev pub endings_in_block : ℕ → List Ending → ℕ
endings_in_block b es = sum_by (λ (e : Ending). cond (e.block.0 == b) 1 0) es

-- the object ends in the desk's hands, and its members before the stage are cleared
pub record IsEndingAtStage (d : ℕ) (e : Ending) (v : GhostState) : Type 0 where
  pub ending : ((model_state v).object (object_of_block v e.block)).phase ≡ ending d
  pub within : e.stage ≤ 3
  pub cleared : (m : ℕ) → m < e.stage → ((model_state v).object (object_of_block v e.block)).member m
      ≡ empty (kind_of_member 2 m)

-- each object is in one ending at most
pub record EndsAll (d : ℕ) (es : List Ending) (v : GhostState) : Type 0 where
  pub each : All (λ (e : Ending). IsEndingAtStage d e v) es
  pub once : (b : ℕ) → endings_in_block b es ≤ 1

-- the steps that the end of an object has left: four for each member, as what comes out of it has to leave, and the
-- last
abbrev pub ending_steps : Ending → ℕ
ending_steps e = 4 * (3 - e.stage) + 1
