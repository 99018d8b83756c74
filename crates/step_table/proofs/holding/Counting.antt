-- How the owner word of an object tells how many owners it has.
use Rattle.std.proofs.Common.{◌≡◌, ℕ, ◌<◌, ◌≢◌, Some, ap, ◌∙◌, ⊎_elim}
use Rattle.step_table.proofs.Prelude.{cases_eq, GhostState, Handle, HoldsBag, Idle, model_state}
use Rattle.step_table.proofs.Prelude.{Nothing, owed, Pending, pending, slot_pointer, Slots, spot}
use Rattle.step_table.proofs.Prelude.{TableInvariant, told_number}
use Rattle.control_word.specs.Views.{owes}
use Rattle.step_table.specs.AtomicSteps.{IsSettled, TellsUseCount, by_word, owner_word}
use Rattle.step_table.proofs.holding.Owning.{slot_held}
use Rattle.step_table.proofs.tables.Doors.{none_in}
use Rattle.step_table.proofs.tables.Owners.{exact_count, told_most, told_none, told_word}

-- no load of the object is under way
settled_owes : (v : GhostState) (d : ℕ) (x : Handle) → pending v d ≡ Idle → IsSettled v d x → owed v.views (spot x.block.0 0) ≡ 0
settled_owes v d x idle settled =
    none_in (λ p. owes p (spot x.block.0 0)) v.views
    (λ e. ⊎_elim (λ (is : e ≡ d). ap (λ (p : Pending Nothing). owes p (spot x.block.0 0)) (ap (pending v) is ∙ idle))
    (λ (ne : e ≢ d). settled e ne) (cases_eq e d))

pub tells : (d i : ℕ) (slots : Slots) (x : Handle) (v : GhostState) → TableInvariant v → d < v.extent.actors → pending v d ≡ Idle → HoldsBag d slots v
    → slot_pointer slots i ≡ Some x → TellsUseCount v d (model_state v) (by_word v) x
tells d i slots x v kept lt idle holds at =
    let has = slot_held d slots v i x holds at in
    let n = told_number (owner_word v x) in
    let is = told_word (owner_word v x) in
    record {
      none = told_none v d x.kind x.block x.place n kept lt idle has is;
      most = told_most v d x.kind x.block x.place n kept lt idle has is;
      exactly = λ settled. exact_count v d x.kind x.block x.place n kept lt idle has is (settled_owes v d x idle settled);
    }
