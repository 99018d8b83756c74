-- Steps on the first words of blocks leave the words of cells.
use Rattle.std.proofs.Common.{◌≡◌, ℕ, suc, ◌+◌, ◌-◌, ◌*◌, ◌<◌, ◌≤◌, min, Bool, true, false, cond}
use Rattle.std.proofs.Common.{not, ◌⊎◌, List, [], ◌∷◌, ◌==◌, slice_index, slice_set, Some, None}
use Rattle.std.proofs.Common.{Option, option_map, sym, refl, subst, inl, inr, arith}
use Rattle.step_core.proofs.Prelude
use Prelude.{alias, AtomicStep, Block, cases_lt, CellName, cond_both, downgrade, ghost_after}
use Prelude.{GhostState, give, Handle, handle_busy, HoldsBag, InShape, inside, is_expired, is_of}
use Prelude.{is_there, IsSite, Kind, kind_at, least, leave_as, lesser, lock, model_state, offered}
use Prelude.{opening, Owner, owner_slot, Place, plain, pointer_of, same_Some, share_as, Site}
use Prelude.{site_place, slot_pointer, slot_value, Slots, spot, Stored, stored, TableInvariant}
use Prelude.{there, Weak, weak_slot, word_of_cell}
use Rattle.std.proofs.Math.Nat.{min-eq_left, min-eq_right}
use Rattle.control_word.specs.State.{Has}
use Rattle.control_word.specs.Words.{slot as slot_of_kind}
use Rattle.step_table.specs.declared.cell_steps.cell_step.CellStep.TheVariants as cell_step
use Rattle.step_table.specs.declared.memory.ghost_history.AtomicStep.TheVariants as atomic_step
use Rattle.step_table.specs.Registers.{owner_as, weak_as}
use Rattle.step_table.proofs.holding.Inside.{inside_is}
use Rattle.step_table.proofs.holding.Owning.{slot_held}
use Rattle.step_table.proofs.tables.Places.{vacant_place}
use Rattle.step_core.proofs.watching.Words.{block_off}

-- the atomic step leaves the words of cells
abbrev pub StaysOff : GhostState → ℕ → Option AtomicStep → Type 0
StaysOff v d x = (c : Site) → IsSite c → slice_index (ghost_after v d x).words (site_place v.extent.shape.blocks c) ≡ word_of_cell v c

abbrev pub IsThere : GhostState → Block → Type 0
IsThere v b = InShape (opening v.extent) b.0

-- the block of a pointer in a slot is one of the table
module _ (v : GhostState) (d : ℕ) (slots : Slots) (kept : TableInvariant v) (holds : HoldsBag d slots v) (i : ℕ) (x : Handle) where
  pub slot_there : slot_pointer slots i ≡ Some x → IsThere v x.block
  slot_there e = (there v x.block kept (handle_busy v d x.kind x.block x.place kept (slot_held d slots v i x holds e))).1

  pub inside_there : inside (slot_pointer slots i) ≡ Some x → IsThere v x.block
  inside_there e = slot_there (inside_is (slot_pointer slots i) x e).0

  pub owner_there : owner_slot (slot_pointer slots i) ≡ Some x → IsThere v x.block
  owner_there e = slot_there (owner_is (slot_pointer slots i) e)
    where
      owner_is : (o : Option Handle) → owner_slot o ≡ Some x → o ≡ Some x
      owner_is None e = cc
      owner_is (Some y) e = go y.kind e
        where
          go : (k : Kind) → owner_as k y ≡ Some x → Some y ≡ Some x
          go Weak e = cc
          go Owner e = e

  pub weak_there : weak_slot (slot_pointer slots i) ≡ Some x → IsThere v x.block
  weak_there e = slot_there (weak_is (slot_pointer slots i) e)
    where
      weak_is : (o : Option Handle) → weak_slot o ≡ Some x → o ≡ Some x
      weak_is None e = cc
      weak_is (Some y) e = go y.kind e
        where
          go : (k : Kind) → weak_as k y ≡ Some x → Some y ≡ Some x
          go Owner e = cc
          go Weak e = e

  pub offered_there : (c : CellName) → offered slots i c ≡ Some x → IsThere v x.block
  offered_there c e = slot_there (offered_is (is_there slots c) (is_of (kind_at c) (slot_value slots i)) e)
    where
      offered_is : (b t : Bool) → cond b (pointer_of (cond t (slot_value slots i) plain)) None ≡ Some x → slot_pointer slots i ≡ Some x
      offered_is true true e = e
      offered_is true false e = cc
      offered_is false t e = cc

-- the least block of a store is one of the table
least_shape : (v : GhostState) (d b : ℕ) (l : List Stored) → ((e c : ℕ) → Has (stored e c) l → InShape (opening v.extent) c) → least d l ≡ Some b
    → InShape (opening v.extent) b
least_shape v d b [] all e = cc
least_shape v d b (x ∷ xs) all e =
    cond_both (x.desk == d) (lesser x.block (least d xs)) (least d xs) (λ (o : Option ℕ). o ≡ Some b → InShape (opening v.extent) b)
    (λ t o. go (least d xs) (λ c is. least_shape v d c xs (λ f m h. all f m (inr h)) is) o)
    (λ t o. least_shape v d b xs (λ f c h. all f c (inr h)) o) e
  where
    here : InShape (opening v.extent) x.block
    here = all x.desk x.block (inl refl)

    go : (o : Option ℕ) → ((c : ℕ) → o ≡ Some c → InShape (opening v.extent) c) → lesser x.block o ≡ Some b → InShape (opening v.extent) b
    go None later e = subst (λ (n : ℕ). InShape (opening v.extent) n) (same_Some _ _ e) here
    go (Some c) later e = subst (λ (n : ℕ). InShape (opening v.extent) n) (same_Some _ _ e) (lower (cases_lt x.block c))
      where
        lower : (x.block < c) ⊎ (c ≤ x.block) → InShape (opening v.extent) (min x.block c)
        lower (inl lt) = subst (λ (n : ℕ). InShape (opening v.extent) n) (sym (min-eq_left {n = x.block} {m = c} (omega arith))) here
        lower (inr le) = subst (λ (n : ℕ). InShape (opening v.extent) n) (sym (min-eq_right {n = c} {m = x.block} (omega arith))) (later c refl)

pub least_there : (v : GhostState) (d : ℕ) (b : Block) → TableInvariant v → least d (model_state v).stores ≡ Some b.0 → IsThere v b
least_there v d b kept e = least_shape v d b.0 (model_state v).stores (λ f c h. vacant_place v f (record { 0 = c }) kept h) e

slot_few : (k : Kind) → slot_of_kind k < 7
slot_few Owner = omega arith
slot_few Weak = omega arith

module _ (v : GhostState) (d : ℕ) where
  pub prepare_off : (b : Block) → IsThere v b → StaysOff v d (Some (atomic_step.Prepare b))
  prepare_off b is = block_off v b.0 1 1 is (omega arith)

  pub write_off : (b : Block) (j word : ℕ) → j < 5 → IsThere v b → StaysOff v d (Some (atomic_step.Write b j word))
  write_off b j word lt is = block_off v b.0 (2 + j) word is (omega (arith, lt))

  pub claim_off : (b : Block) (enabled null : Bool) (fields : List ℕ) → IsThere v b → StaysOff v d (Some (atomic_step.Claim b enabled null fields))
  claim_off b enabled null fields is = block_off v b.0 0 1 is (omega arith)

  pub finish_off : (b : Block) (vacant : Bool) → IsThere v b → StaysOff v d (Some (atomic_step.Finish b vacant))
  finish_off b vacant is = block_off v b.0 1 (slice_index v.words (spot b.0 1) - 1) is (omega arith)

  strong_off : (b : Block) (p q : Option Place) → IsThere v b → StaysOff v d (Some (atomic_step.Share b p q))
  strong_off b p q is = block_off v b.0 0 (suc (slice_index v.words (spot b.0 0))) is (omega arith)

  weak_off : (b : Block) (p : Option Place) → IsThere v b → StaysOff v d (Some (atomic_step.WeakShare b p))
  weak_off b p is = block_off v b.0 1 (suc (slice_index v.words (spot b.0 1))) is (omega arith)

  pub share_off : (q : Kind) (x : Handle) → IsThere v x.block → StaysOff v d (Some (share_as q x))
  share_off Owner x is = strong_off x.block x.place x.place is
  share_off Weak x is = weak_off x.block x.place is

  pub alias_off : (p : Option Place) (x : Handle) → IsThere v x.block → StaysOff v d (Some (alias p x))
  alias_off p x is = strong_off x.block x.place p is

  pub downgrade_off : (x : Handle) → IsThere v x.block → StaysOff v d (Some (downgrade x))
  downgrade_off x is = weak_off x.block x.place is

  pub give_off : (q : Kind) (x : Handle) → IsThere v x.block → StaysOff v d (Some (give q x))
  give_off Owner x is = block_off v x.block.0 0 (suc (slice_index v.words (spot x.block.0 0))) is (omega arith)
  give_off Weak x is = block_off v x.block.0 1 (suc (slice_index v.words (spot x.block.0 1))) is (omega arith)

  pub leave_off : (q : Kind) (x : Handle) (last : Bool) → IsThere v x.block → StaysOff v d (Some (leave_as q x last))
  leave_off Owner x last is = block_off v x.block.0 0 (slice_index v.words (spot x.block.0 0) - 1) is (omega arith)
  leave_off Weak x last is = block_off v x.block.0 1 (slice_index v.words (spot x.block.0 1) - 1) is (omega arith)

  pub lock_off : (x : Handle) → IsThere v x.block → StaysOff v d (Some (lock (model_state v) x))
  lock_off x is c valid = go (not (is_expired (model_state v) x))
    where
      go : (b : Bool) → slice_index (cond b (slice_set v.words (spot x.block.0 0) (suc (slice_index v.words (spot x.block.0 0)))) v.words)
          (site_place v.extent.shape.blocks c) ≡ word_of_cell v c
      go true = block_off v x.block.0 0 (suc (slice_index v.words (spot x.block.0 0))) is (omega arith) c valid
      go false = refl

  pub bring_off : (k : Kind) (b : Block) (p : Option Place) (f : ℕ) → IsThere v b → StaysOff v d (Some (atomic_step.OnCell (cell_step.Bring k b p f)))
  bring_off k b p f is =
      block_off v b.0 (slot_of_kind k) (slice_index v.words (spot b.0 (slot_of_kind k)) + 4294967296 * f) is (slot_few k)

  pub give_back_off : (k : Kind) (b : Block) (f : ℕ) → IsThere v b → StaysOff v d (Some (atomic_step.OnCell (cell_step.GiveBack k b f)))
  give_back_off k b f is =
      block_off v b.0 (slot_of_kind k) (slice_index v.words (spot b.0 (slot_of_kind k)) - 4294967296 * f) is (slot_few k)

  pub turn_off : (k : Kind) (b : Block) → IsThere v b → StaysOff v d (Some (atomic_step.OnCell (cell_step.Turn k b)))
  turn_off k b is =
      block_off v b.0 (slot_of_kind k) (slice_index v.words (spot b.0 (slot_of_kind k)) - 4294967295) is (slot_few k)

  -- a step on what a slot holds
  pub each_off : (f : Handle → AtomicStep) (o : Option Handle) → ((x : Handle) → o ≡ Some x → StaysOff v d (Some (f x)))
      → StaysOff v d (option_map f o)
  each_off f None off = λ c valid. refl
  each_off f (Some x) off = off x refl
