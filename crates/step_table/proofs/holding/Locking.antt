-- What a lock does to a desk's bag and to its slots.
use Rattle.std.proofs.Common.{◌≡◌, ℕ, ◌<◌, Bool, true, false, cond, not, length, set, None, refl}
use Rattle.std.proofs.Common.{subst}
use Rattle.step_table.proofs.Prelude.{as_owner, Full, ghost_after_step, GhostState, Handle}
use Rattle.step_table.proofs.Prelude.{HoldsBag, IsPointer, Lock, slot_pointer, Slots}
use Rattle.step_table.proofs.holding.Owning.{holds_look, holds_more}

-- a look that finds 0 is the event of the empty lock
pub looked : (v : GhostState) (d : ℕ) (x : Handle) (t e : Bool) → t ≡ e
    → cond t (ghost_after_step v d (Lock x.block x.place false)) v ≡ cond t (ghost_after_step v d (Lock x.block x.place (not e))) v
looked v d x t e is =
    subst (λ (q : Bool). cond t (ghost_after_step v d (Lock x.block x.place false)) v ≡ cond t
    (ghost_after_step v d (Lock x.block x.place (not q))) v) is (go t)
  where
    go : (t : Bool) → cond t (ghost_after_step v d (Lock x.block x.place false)) v ≡ cond t (ghost_after_step v d (Lock x.block x.place (not t))) v
    go true = refl
    go false = refl

pub holds_looked : (d : ℕ) (slots : Slots) (v : GhostState) (x : Handle) (t : Bool) → HoldsBag d slots v
    → HoldsBag d slots (cond t (ghost_after_step v d (Lock x.block x.place false)) v)
holds_looked d slots v x true holds = holds_look d slots v (ghost_after_step v d (Lock x.block x.place false)) refl refl holds
holds_looked d slots v x false holds = holds

pub holds_tried : (d : ℕ) (slots : Slots) (v : GhostState) (i : ℕ) (x : Handle) → HoldsBag d slots v → IsPointer x.place → i < length slots
    → slot_pointer slots i ≡ None
    → HoldsBag d (set slots i (Full (as_owner x))) (ghost_after_step v d (Lock x.block x.place true))
holds_tried d slots v i x holds fine lt e = holds_more d slots v (ghost_after_step v d (Lock x.block x.place true)) i (as_owner x) holds refl refl fine lt e
