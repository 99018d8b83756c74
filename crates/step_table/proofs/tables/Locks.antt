-- Locks of weak handles.
use Rattle.std.proofs.Common.{◌≡◌, ℕ, suc, ◌<◌, true, false, ◌∷◌, get_or, set, Option, sym, subst}
use Rattle.step_table.proofs.Prelude.{bag_size, Block, entry, ghost_after_step, GhostState, Has}
use Rattle.step_table.proofs.Prelude.{held, Idle, Lock, me, model_state, object_of_block, opening}
use Rattle.step_table.proofs.Prelude.{pending, Place, sees_as, spot, Stands, TableInvariant}
use Rattle.step_table.proofs.Prelude.{view_in, Weak, weak_in}
use Rattle.control_word.proofs.steps.Lock.{locks}
use Rattle.control_word.specs.declared.model.event.Event.TheVariants as event
use Rattle.step_table.proofs.tables.Owners.{mine_as}
use Rattle.step_table.proofs.tables.Places.{event_by, handle_busy, named, there}
use Rattle.step_table.proofs.tables.Standing.{point, ready, kept_after}

locking : (v : GhostState) (d : ℕ) (b : Block) (p : Option Place) → TableInvariant v → d < v.extent.actors → pending v d ≡ Idle
    → Has (held d (weak_in v b p)) (model_state v).hands
    → (get_or v.words (spot b.0 0) 0 ≡ 0 → let e = event.Lock (weak_in v b p) false in
    Stands (opening v.extent) v.words (set v.views d (sees_as (view_in v.views d) Idle (entry (me (point v d)) e ∷ v.history)))
    (entry (me (point v d)) e ∷ v.history))
    × (0 < get_or v.words (spot b.0 0) 0 → bag_size (model_state v) (me (point v d)) < (model_state v).allowance (me (point v d))
    → let e = event.Lock (weak_in v b p) true in
    Stands (opening v.extent) (set v.words (spot b.0 0) (suc (get_or v.words (spot b.0 0) 0)))
    (set v.views d (sees_as (view_in v.views d) Idle (entry (me (point v d)) e ∷ v.history))) (entry (me (point v d)) e ∷ v.history))
locking v d b p kept lt idle has =
    subst (λ (c : ℕ). (get_or v.words (spot c 0) 0 ≡ 0 → let e = event.Lock (weak_in v b p) false in
    Stands (opening v.extent) v.words (set v.views d (sees_as (view_in v.views d) Idle (entry (me (point v d)) e ∷ v.history)))
    (entry (me (point v d)) e ∷ v.history))
    × (0 < get_or v.words (spot c 0) 0 → bag_size (model_state v) (me (point v d)) < (model_state v).allowance (me (point v d))
    → let e = event.Lock (weak_in v b p) true in
    Stands (opening v.extent) (set v.words (spot c 0) (suc (get_or v.words (spot c 0) 0)))
    (set v.views d (sees_as (view_in v.views d) Idle (entry (me (point v d)) e ∷ v.history))) (entry (me (point v d)) e ∷ v.history)))
    (there v b kept (handle_busy v d Weak b p kept has)).0
    (locks (point v d) (object_of_block v b) p (ready v d Idle kept lt idle) (mine_as v d Weak b p kept lt has))

-- a lock that finds 0 is empty
pub kept_lock_empty : (v : GhostState) (d : ℕ) (b : Block) (p : Option Place) → TableInvariant v → d < v.extent.actors → pending v d ≡ Idle
    → Has (held d (weak_in v b p)) (model_state v).hands → get_or v.words (spot b.0 0) 0 ≡ 0 → TableInvariant (ghost_after_step v d (Lock b p false))
kept_lock_empty v d b p kept lt idle has none =
    kept_after v d (Lock b p false) kept lt
    (event_by v d v.words Idle (event.Lock (weak_in v b p) false) kept lt ((locking v d b p kept lt idle has).0 none))

-- a lock that finds another word and puts one more there gives an owner
pub kept_lock : (v : GhostState) (d : ℕ) (b : Block) (p : Option Place) → TableInvariant v → d < v.extent.actors → pending v d ≡ Idle
    → Has (held d (weak_in v b p)) (model_state v).hands → 0 < get_or v.words (spot b.0 0) 0 → bag_size (model_state v) d < (model_state v).allowance d
    → TableInvariant (ghost_after_step v d (Lock b p true))
kept_lock v d b p kept lt idle has some room =
    kept_after v d (Lock b p true) kept lt
    (event_by v d (set v.words (spot b.0 0) (suc (get_or v.words (spot b.0 0) 0))) Idle (event.Lock (weak_in v b p) true) kept lt
    ((locking v d b p kept lt idle has).1 some (subst (λ (n : ℕ). bag_size (model_state v) n < (model_state v).allowance n) (sym (named v d kept lt)) room)))
