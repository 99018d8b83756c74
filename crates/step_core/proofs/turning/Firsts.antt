-- The first step of each act: it is the act, or it only begins it.
use Rattle.std.proofs.Common.{◌≡◌, ℕ, true, false, List, ◌==◌, Some, None, Option, refl}
use Rattle.step_core.proofs.Prelude
use Prelude.{abstraction, Act, Alias, Ask, asks, begins, Clear, Compare, cond_both, Count}
use Prelude.{Downgrade, Drop, Exchange, Expired, false≢true, first, frame_of, FromThis, Giving}
use Prelude.{going, Handle, Holds, inside, is_acting, is_enabled, Kind, least, Leave, Load, Lock}
use Prelude.{lock, locked_pointer, looks, Make, model_state, Move, Offer, on, OnShelf, owner_word}
use Prelude.{Put, Read, Rest, Share, silent, slot_pointer, Step, step_of_act, Swap, Task, trying}
use Prelude.{waits_on, world_state_by, WorldState}
use Rattle.step_core.proofs.turning.Ending.{same_frames, abstraction_as}
use Rattle.step_core.proofs.turning.Saying.{Acts, asks_so, begins_so, does_so, looks_so}
use Rattle.step_core.proofs.turning.Swapping.{goes_same, goes_so}
use Rattle.step_core.proofs.turning.Holding.{holds_so}
use Rattle.step_core.proofs.turning.Looking.{CanLook, compare_first, compare_same, load_first}
use Rattle.step_core.proofs.turning.Looking.{load_same}

-- each act
pub acts_so : (d : ℕ) (u : WorldState) (k : ℕ) (ts : List Task) (a : Act) → CanLook d u a → waits_on u.ghost_state (frame_of (abstraction u) d) a ≡ false
    → let x = first u.ghost_state d (frame_of (abstraction u) d) k ts a in is_acting x.pending_call ≡ false → Acts d u k ts a x
acts_so d u k ts (Make form) can none is = begins_so d u k ts form (least d (model_state u.ghost_state).stores) refl is
acts_so d u k ts (Share i) can none is = (refl, does_so d u.ghost_state _ _)
acts_so d u k ts (Put i) can none is = (refl, does_so d u.ghost_state _ _)
acts_so d u k ts (Leave i) can none is = (refl, does_so d u.ghost_state _ _)
acts_so d u k ts (Clear i) can none is = (refl, does_so d u.ghost_state _ _)
acts_so d u k ts (Count i) can none is = (refl, does_so d u.ghost_state _ _)
acts_so d u k ts (Downgrade i) can none is = (refl, does_so d u.ghost_state _ _)
acts_so d u k ts (Lock i must) can none is = looks_so d u k ts i must (locked_pointer (frame_of (abstraction u) d).slots (Lock i must)) refl is
acts_so d u k ts (Expired i) can none is = (refl, does_so d u.ghost_state _ _)
acts_so d u k ts (Read i) can none is = (refl, does_so d u.ghost_state _ _)
acts_so d u k ts (FromThis i kind) can none is = asks_so d u k ts i kind (inside (slot_pointer (frame_of (abstraction u) d).slots i)) refl is
acts_so d u k ts (Alias i j field) can none is = (refl, does_so d u.ghost_state _ _)
acts_so d u k ts (Move i) can none is = (refl, refl)
acts_so d u k ts (Ask q) can none is = (refl, refl)
acts_so d u k ts (Offer i c) can none is = (refl, does_so d u.ghost_state _ _)
acts_so d u k ts (Swap c) can none is = goes_so d u k ts (Swap c) (going (frame_of (abstraction u) d).slots (Swap c))
    (can.seat, can.kept, can.cell, can.holds) refl refl is
acts_so d u k ts (Exchange i c) can none is = goes_so d u k ts (Exchange i c) (going (frame_of (abstraction u) d).slots (Exchange i c))
    (can.seat, can.kept, can.cell, can.holds) refl refl is
acts_so d u k ts (Load c) can none is = load_first d u k ts c can none is
acts_so d u k ts (Compare i c weak) can none is = compare_first d u k ts i c weak can none is
acts_so d u k ts (Holds i c) can none is = holds_so d u k ts i c can
acts_so d u k ts Drop can none is = (refl, does_so d u.ghost_state _ _)
acts_so d u k ts (OnShelf x) can none is = (refl, does_so d u.ghost_state _ _)

begins_same : (d : ℕ) (u : WorldState) (k : ℕ) (ts : List Task) (o : Option ℕ) → is_acting (begins (frame_of (abstraction u) d) k ts o).pending_call ≡ true
    → abstraction (world_state_by d u (Some (begins (frame_of (abstraction u) d) k ts o))) ≡ abstraction u
begins_same d u k ts None is = absurd (false≢true is)
begins_same d u k ts (Some b) is = abstraction_as u _ _ _ _ refl (same_frames d u)

-- a lock that has just begun
looks_same : (d : ℕ) (u : WorldState) (k : ℕ) (ts : List Task) (a : Act) (o : Option Handle)
    → let w = frame_of (abstraction u) d in
    let x = on (looks u.ghost_state d w k ts a) (step_of_act u.ghost_state d w k ts a None Rest) o in is_acting x.pending_call ≡ true
    → abstraction (world_state_by d u (Some x)) ≡ abstraction u
looks_same d u k ts a None is = absurd (false≢true is)
looks_same d u k ts a (Some y) is =
    let w = frame_of (abstraction u) d in
    let n = owner_word u.ghost_state y in
    cond_both (n == 0) (step_of_act u.ghost_state d w k ts a (Some (lock (model_state u.ghost_state) y)) Rest) (trying w k n)
    (λ (x : Step). is_acting x.pending_call ≡ true → abstraction (world_state_by d u (Some x)) ≡ abstraction u) (λ t q. absurd (false≢true q))
    (λ t q. abstraction_as u _ _ _ _ refl (same_frames d u)) is

-- an object that was just asked
asks_same : (d : ℕ) (u : WorldState) (k : ℕ) (ts : List Task) (i : ℕ) (q : Kind) (o : Option Handle)
    → let w = frame_of (abstraction u) d in
    let x = on (asks u.ghost_state d w k ts i q) (step_of_act u.ghost_state d w k ts (FromThis i q) None Rest) o in
    is_acting x.pending_call ≡ true → abstraction (world_state_by d u (Some x)) ≡ abstraction u
asks_same d u k ts i q None is = absurd (false≢true is)
asks_same d u k ts i q (Some y) is =
    let w = frame_of (abstraction u) d in
    cond_both (is_enabled (model_state u.ghost_state) y) (record { atomic_step = None; pending_call = Giving i q y; frame_view = w; said = silent k })
    (step_of_act u.ghost_state d w k ts (FromThis i q) None Rest)
    (λ (x : Step). is_acting x.pending_call ≡ true → abstraction (world_state_by d u (Some x)) ≡ abstraction u)
    (λ t z. abstraction_as u _ _ _ _ refl (same_frames d u)) (λ t z. absurd (false≢true z)) is

pub first_same : (d : ℕ) (u : WorldState) (k : ℕ) (ts : List Task) (a : Act)
    → let x = first u.ghost_state d (frame_of (abstraction u) d) k ts a in is_acting x.pending_call ≡ true → abstraction (world_state_by d u (Some x)) ≡
    abstraction u
first_same d u k ts (Make form) is = begins_same d u k ts (least d (model_state u.ghost_state).stores) is
first_same d u k ts (Share i) is = absurd (false≢true is)
first_same d u k ts (Put i) is = absurd (false≢true is)
first_same d u k ts (Leave i) is = absurd (false≢true is)
first_same d u k ts (Clear i) is = absurd (false≢true is)
first_same d u k ts (Count i) is = absurd (false≢true is)
first_same d u k ts (Downgrade i) is = absurd (false≢true is)
first_same d u k ts (Lock i must) is = looks_same d u k ts (Lock i must) (locked_pointer (frame_of (abstraction u) d).slots (Lock i must)) is
first_same d u k ts (Expired i) is = absurd (false≢true is)
first_same d u k ts (Read i) is = absurd (false≢true is)
first_same d u k ts (FromThis i kind) is = asks_same d u k ts i kind (inside (slot_pointer (frame_of (abstraction u) d).slots i)) is
first_same d u k ts (Alias i j field) is = absurd (false≢true is)
first_same d u k ts (Move i) is = absurd (false≢true is)
first_same d u k ts (Ask q) is = absurd (false≢true is)
first_same d u k ts (Offer i c) is = absurd (false≢true is)
first_same d u k ts (Swap c) is = goes_same d u k ts (Swap c) (going (frame_of (abstraction u) d).slots (Swap c)) is
first_same d u k ts (Exchange i c) is = goes_same d u k ts (Exchange i c) (going (frame_of (abstraction u) d).slots (Exchange i c)) is
first_same d u k ts (Load c) is = load_same d u k ts c is
first_same d u k ts (Compare i c weak) is = compare_same d u k ts i c weak is
first_same d u k ts (Holds i c) is = absurd (false≢true is)
first_same d u k ts Drop is = absurd (false≢true is)
first_same d u k ts (OnShelf x) is = absurd (false≢true is)
