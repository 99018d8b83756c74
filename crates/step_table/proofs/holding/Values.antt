-- What pointers tell by their values.
use Rattle.std.proofs.Common.{◌≡◌, ℕ, nat_lt, Some, None, Option, sym, refl, ap, ◌∙◌, subst}
use Rattle.step_table.proofs.Prelude.{blocks_of, empty, GhostState, Handle, handle_in_block, Has}
use Rattle.step_table.proofs.Prelude.{held, HoldsBag, Kind, model_state, on, Owner, owner_in}
use Rattle.step_table.proofs.Prelude.{same_Some, slot_pointer, Slots, TableInvariant, Weak}
use Rattle.control_word.specs.Handles.{rank}
use Rattle.step_table.specs.AtomicSteps.{handle_of, pointer_before}
use Rattle.step_table.specs.Registers.{owner_as, owner_slot}
use Rattle.step_table.proofs.holding.Owning.{slot_held}
use Rattle.step_table.proofs.tables.Places.{handle_busy, there}

-- an owner in a slot
pub owner_held : (d : ℕ) (slots : Slots) (v : GhostState) (i : ℕ) (x : Handle) → HoldsBag d slots v → owner_slot (slot_pointer slots i) ≡ Some x
    → Has (held d (owner_in v x.block x.place)) (model_state v).hands
owner_held d slots v i x holds e =
    let w = owner_is (slot_pointer slots i) x e in
    subst (λ (k : Kind). Has (held d (handle_in_block v k x.block x.place)) (model_state v).hands) w.1 (slot_held d slots v i x holds w.0)
  where
    owner_is : (o : Option Handle) (x : Handle) → owner_slot o ≡ Some x → (o ≡ Some x) × (x.kind ≡ Owner)
    owner_is None x e = cc
    owner_is (Some y) x e = go y.kind refl e
      where
        go : (k : Kind) → y.kind ≡ k → owner_as k y ≡ Some x → (Some y ≡ Some x) × (x.kind ≡ Owner)
        go Weak is e = cc
        go Owner is e = (e, ap (λ (p : Handle). p.kind) (sym (same_Some y x e)) ∙ is)

-- the block of what a slot owns tells where it stands in owner order
slot_rank : (d : ℕ) (slots : Slots) (v : GhostState) (i : ℕ) → TableInvariant v → HoldsBag d slots v
    → rank (blocks_of (model_state v)) (on (handle_of (model_state v)) (empty Owner) (slot_pointer slots i)) ≡ on (λ x. x.block.0) 0 (slot_pointer slots i)
slot_rank d slots v i kept holds = go (slot_pointer slots i) refl
  where
    go : (o : Option Handle) → slot_pointer slots i ≡ o
        → rank (blocks_of (model_state v)) (on (handle_of (model_state v)) (empty Owner) o) ≡ on (λ x. x.block.0) 0 o
    go None e = refl
    go (Some x) e = (there v x.block kept (handle_busy v d x.kind x.block x.place kept (slot_held d slots v i x holds e))).0

pub before_by : (d : ℕ) (slots : Slots) (v : GhostState) (i j : ℕ) → TableInvariant v → HoldsBag d slots v
    → pointer_before (model_state v) (slot_pointer slots i) (slot_pointer slots j) ≡ nat_lt (on (λ x. x.block.0) 0 (slot_pointer slots i))
    (on (λ x. x.block.0) 0 (slot_pointer slots j))
before_by d slots v i j kept holds =
    let a = slot_rank d slots v i kept holds in
    let b = slot_rank d slots v j kept holds in
    rw (a, b) refl
