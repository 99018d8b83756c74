-- No step ever finds all funds of a cell taken.
use Rattle.std.proofs.Common.{◌≡◌, ℕ, ◌<◌, ◌≤◌, Bool, true, false, not, ◌&&◌, List, [], ◌∷◌}
use Rattle.std.proofs.Common.{length, get_or, set, is_some, ◌==◌, slice_index, Some, None, Option}
use Rattle.std.proofs.Common.{sym, refl, ap, ◌∙◌, subst, arith, ne_eqb}
use Rattle.step_core.proofs.Prelude
use Prelude.{abstraction, Act, Alias, and_parts, as_word, Ask, AtomicStep, Brought, cell_of_name}
use Prelude.{CellName, Clear, Clearing, Compare, cond_both, Count, Downgrade, Drop, Ending}
use Prelude.{Exchange, Expired, filter, frame_of, FrameView, FromThis, ghost_after, ghost_by}
use Prelude.{GhostState, Giving, hand, Handle, HasBegun, HasCell, Holds, HoldsBag, idle, inside}
use Prelude.{is_full, is_of, is_offered, is_spent, is_there, is_watching, IsCellOfShape, IsIn}
use Prelude.{IsInShape, IsStill, kind_at, Leave, Load, Lock, Locking, Make, Making, Matched}
use Prelude.{Member, model_state, Move, Offer, on, OnShelf, pending_call_by, pending_call_of}
use Prelude.{PendingCall, Put, Read, Refill, Rest, Returning, same_value, Saw, seen, set-get_or}
use Prelude.{Share, Site, site_place, slot_pointer, slot_value, Slots, Step, step_of, Swap}
use Prelude.{TableInvariant, Task, waits, waits_at, waits_on, word_of_cell, world_state_by}
use Prelude.{WorldState}
use Rattle.std.proofs.lemmas.Bool.{not-false}
use Rattle.step_threads.specs.declared.programs.call.CellName.TheVariants as cell
use Rattle.step_table.proofs.contained.Told.{shared_is}
use Rattle.step_threads.specs.Frames.{is_compared}
use Rattle.step_core.specs.Watching.{IsWatched}
use Rattle.step_core.proofs.watching.Blocks.{inside_there}
use Rattle.step_core.proofs.watching.Cells.{Watches, last_false}
use Rattle.step_core.proofs.watching.PendingCalls.{each_watch}
use Rattle.step_core.proofs.watching.Steps.{IsWatch}
use Rattle.step_core.proofs.watching.Words.{filter_few, watch}
use Rattle.control_word.specs.Packing.{taken_in}

by_atomic_step : (v : GhostState) (d : ℕ) (h g : PendingCall) (x : Option AtomicStep) (l : List PendingCall) → length l ≤ 64
    → d < length l → get_or l d Rest ≡ h → Watches v d h x g → IsWatched v l → IsWatched (ghost_after v d x) (set l d g)
by_atomic_step v d h g None l few lt at w was c is =
    watch v.extent.shape.blocks (site_place v.extent.shape.blocks c) _ _ d h g l few lt at (w c is) (was c is)
by_atomic_step v d h g (Some x) l few lt at w was c is =
    watch v.extent.shape.blocks (site_place v.extent.shape.blocks c) _ _ d h g l few lt at (w c is) (was c is)

-- after a step of a thread few funds of each cell are taken, or they are to be put back
pub watched_step : (d : ℕ) (u : WorldState) → TableInvariant u.ghost_state → TableInvariant (ghost_by u.ghost_state d (step_of d u)) → HasBegun d u
    → length u.pending_calls ≤ 64 → IsWatched u.ghost_state u.pending_calls
    → IsWatched (world_state_by d u (step_of d u)).ghost_state (world_state_by d u (step_of d u)).pending_calls
watched_step d u kept after begun few was =
    go (step_of d u)
    (each_watch u.ghost_state d (frame_of (abstraction u) d) kept begun.seat begun.holds (pending_call_of u d) begun.pending_call begun.tried begun.proper
    begun.out after)
  where
    go : (x : Option Step) → IsWatch u.ghost_state d (pending_call_of u d) x → IsWatched (ghost_by u.ghost_state d x)
        (set u.pending_calls d (pending_call_by (pending_call_of u d) x))
    go None w = subst (λ (l : List PendingCall). IsWatched u.ghost_state l) (sym (set-get_or u.pending_calls d Rest)) was
    go (Some x) w = by_atomic_step u.ghost_state d (pending_call_of u d) x.pending_call x.atomic_step u.pending_calls few begun.within refl w was

-- the cell that is named is one of the shape, where it is there
pub named_cell : (v : GhostState) (d : ℕ) (slots : Slots) → TableInvariant v → HoldsBag d slots v → (c : CellName) → IsIn v.extent.shape c
    → is_there slots c ≡ true
    → IsCellOfShape v.extent.shape (cell_of_name (model_state v) slots c)
named_cell v d slots kept holds (cell.Shared n) lt is = omega (arith, lt)
named_cell v d slots kept holds (cell.Weak n) lt is = let s = shared_is v in omega (arith, s, lt)
named_cell v d slots kept holds (cell.Member k m) lt is = go (inside (slot_pointer slots k.0)) refl is
  where
    go : (o : Option Handle) → inside (slot_pointer slots k.0) ≡ o → is_full o ≡ true
        → IsCellOfShape v.extent.shape (Member (on (λ (x : Handle). x.block) (record { 0 = 0 }) o) m)
    go None e full = cc
    go (Some x) e full = let t = inside_there v d slots kept holds k.0 x e in (t.0, t.1, lt)

-- a cell that is compared is there
compared_there : (slots : Slots) (taken : Bool) (k : ℕ) (c : CellName) → is_compared slots taken k c ≡ true → is_there slots c ≡ true
compared_there slots taken k c is =
    let a = and_parts (is_offered slots taken c) (is_of (kind_at c) (slot_value slots k)) is in
    let b = and_parts (taken && is_there slots c) (is_of (kind_at c) (slot_value slots (hand slots))) a.0 in
    (and_parts taken (is_there slots c) b.0).1

module _ (v : GhostState) (l : List PendingCall) (few : length l ≤ 64) (was : IsWatched v l) where
  -- of no cell all funds are taken
  not_spent : (c : Site) → IsCellOfShape v.extent.shape c → is_spent (seen v c) ≡ false
  not_spent c is =
      let z = v.extent.shape in
      let a = was c is in
      let m = filter_few (is_watching z.blocks (site_place z.blocks c) (word_of_cell v c)) l in
      let ne : (taken_in (word_of_cell v c) == 256) ≡ false = ne_eqb _ 256 (λ e. omega (arith, a, m, few, e)) in
      ap (λ (t : Bool). is_some (seen v c).owned && t) ne ∙ last_false (is_some (seen v c).owned)

  module _ (d : ℕ) (w : FrameView) (kept : TableInvariant v) (holds : HoldsBag d w.slots v) where
    cell_spent : (c : CellName) → IsIn v.extent.shape c → is_there w.slots c ≡ true
        → is_spent (seen v (cell_of_name (model_state v) w.slots c)) ≡ false
    cell_spent c has is = not_spent (cell_of_name (model_state v) w.slots c) (named_cell v d w.slots kept holds c has is)

    load_waits : (c : CellName) → IsIn v.extent.shape c → (b : Bool) → is_there w.slots c ≡ b
        → (b && is_spent (seen v (cell_of_name (model_state v) w.slots c))) ≡ false
    load_waits c has false is = refl
    load_waits c has true is = cell_spent c has is

    act_waits : (a : Act) → HasCell v.extent.shape a → idle a w.slots w.taken ≡ false → waits_on v w a ≡ false
    act_waits (Load c) has still = load_waits c has (is_there w.slots c) refl
    act_waits (Compare i c weak) has still =
        let x = seen v (cell_of_name (model_state v) w.slots c) in
        let b = not (same_value x (as_word (slot_value w.slots i))) in
        ap (λ (t : Bool). b && t) (cell_spent c has (compared_there w.slots w.taken i c (not-false _ still))) ∙ last_false b
    act_waits (Make form) has still = refl
    act_waits (Share i) has still = refl
    act_waits (Downgrade i) has still = refl
    act_waits (Lock i must) has still = refl
    act_waits (Put i) has still = refl
    act_waits (Leave i) has still = refl
    act_waits (Clear i) has still = refl
    act_waits (Count i) has still = refl
    act_waits (Expired i) has still = refl
    act_waits (Read i) has still = refl
    act_waits (FromThis i kind) has still = refl
    act_waits (Alias i j field) has still = refl
    act_waits (Move i) has still = refl
    act_waits (Ask q) has still = refl
    act_waits (Offer i c) has still = refl
    act_waits (Swap c) has still = refl
    act_waits (Exchange i c) has still = refl
    act_waits (Holds i c) has still = refl
    act_waits Drop has still = refl
    act_waits (OnShelf x) has still = refl

    waits_none : (es : List Ending) (ts : List Task) → IsInShape v.extent.shape ts → IsStill w ts → waits_at v w es ts ≡ false
    waits_none [] [] has still = refl
    waits_none [] (t ∷ ts) has still = act_waits t.act has still
    waits_none (e ∷ es) ts has still = refl

    pending_call_waits : (h : PendingCall) → IsInShape v.extent.shape w.todo → IsStill w w.todo → waits v h w ≡ false
    pending_call_waits Rest has still = waits_none w.endings w.todo has still
    pending_call_waits (Making b i f) has still = refl
    pending_call_waits (Locking word) has still = refl
    pending_call_waits (Giving i q x) has still = refl
    pending_call_waits Brought has still = refl
    pending_call_waits (Saw x) has still = refl
    pending_call_waits (Matched x) has still = refl
    pending_call_waits (Refill s c x k) has still = refl
    pending_call_waits (Returning q b f k) has still = refl
    pending_call_waits Clearing has still = refl

-- so no thread has to wait
pub unwatched : (d : ℕ) (u : WorldState) → HasBegun d u → length u.pending_calls ≤ 64 → IsWatched u.ghost_state u.pending_calls
    → waits u.ghost_state (pending_call_of u d) (frame_of (abstraction u) d) ≡ false
unwatched d u begun few was =
    pending_call_waits u.ghost_state u.pending_calls few was d (frame_of (abstraction u) d) begun.kept begun.holds (pending_call_of u d) begun.cell begun.still

-- a world begins with no funds taken
pub watched_start : (v : GhostState) (l : List PendingCall) → ((i : ℕ) → slice_index v.words i ≡ 0) → IsWatched v l
watched_start v l zero c is = let z = zero (site_place v.extent.shape.blocks c) in omega (arith, z)
