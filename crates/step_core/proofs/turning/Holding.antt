-- An act that asks whether a cell holds what a name does.
use Rattle.std.proofs.Common.{◌≡◌, ℕ, Bool, true, false, cond, List, set, Some, None, Option, refl}
use Rattle.std.proofs.Common.{ap, ◌∙◌}
use Rattle.step_core.proofs.Prelude.{abstraction, and_parts, as_word, cell_of_name, CellName}
use Rattle.step_core.proofs.Prelude.{Event, event_added, frame_of, GhostState, goes_in, History}
use Rattle.step_core.proofs.Prelude.{Holds, holds_step, is_expected, is_of, is_there, IsIn}
use Rattle.step_core.proofs.Prelude.{kind_at, may_go, model_state, Nothing, opening, Rest}
use Rattle.step_core.proofs.Prelude.{slot_value, Slots, step_of_act, Task, went, WorldState}
use Rattle.step_table.specs.declared.cell_steps.cell_step.CellStep.TheVariants as cell_step
use Rattle.step_table.specs.declared.memory.ghost_history.AtomicStep.TheVariants as atomic_step
use Rattle.step_table.proofs.contained.Holding.{holds_tells}
use Rattle.step_core.proofs.Entries.{does, history_asks}
use Rattle.step_core.proofs.turning.Looking.{CanLook}
use Rattle.step_core.proofs.turning.Saying.{Acts, does_so}

-- its event tells what the name has, and whether the cell holds it
holds_told : (v : GhostState) (d : ℕ) (slots : Slots) (i : ℕ) (c : CellName) → IsIn v.extent.shape c → (b : Bool) → may_go slots c i ≡ b
    → let x = cell_step.Holds (cell_of_name (model_state v) slots c) (as_word (slot_value slots i)) (is_expected (model_state v) slots i c) in
    does (opening v.extent) d v.history (cond b (Some (atomic_step.OnCell x)) None)
    ≡ cond b (history_asks (opening v.extent) d slots v.history i c) v.history
holds_told v d slots i c has true may =
    ap (λ (o : Option (Event Nothing)). event_added d o v.history)
    (holds_tells v (cell_of_name (model_state v) slots c) (slot_value slots i)
    (goes_in v slots c (slot_value slots i) has (and_parts (is_there slots c) (is_of (kind_at c) (slot_value slots i)) may).1))
holds_told v d slots i c has false may = refl

pub holds_so : (d : ℕ) (u : WorldState) (k : ℕ) (ts : List Task) (i : ℕ) (c : CellName) → CanLook d u (Holds i c)
    → let v = u.ghost_state in let w = frame_of (abstraction u) d in
    Acts d u k ts (Holds i c) (step_of_act v d w k ts (Holds i c) (holds_step (model_state v) w.slots i c) Rest)
holds_so d u k ts i c can =
    let v = u.ghost_state in
    let w = frame_of (abstraction u) d in
    let frames = set u.frame_views d (went (model_state v) d w k ts (Holds i c)) in (
      refl,
      does_so d v (holds_step (model_state v) w.slots i c) frames
          ∙ ap (λ (h : History). record { extent = v.extent; history = h; frame_views = frames })
          (holds_told v d w.slots i c can.cell (may_go w.slots c i) refl),
    )
