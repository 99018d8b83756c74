-- Steps of weak handles on the words.
use Rattle.std.proofs.Common.{◌≡◌, ℕ, suc, ◌-◌, ◌<◌, Bool, ◌&&◌, ◌⊎◌, ◌∷◌, get_or, set, ◌==◌}
use Rattle.std.proofs.Common.{Option, sym, refl, ap, ◌∙◌, subst, inl, inr, ⊎_elim, arith, ne_eqb}
use Rattle.step_table.proofs.Prelude
use Prelude.{bag_size, Block, count, entry, Expired, ghost_after_step, GhostState, handle_in_block}
use Prelude.{Has, held, Idle, Kind, look_event, me, model_state, Nothing, object_of_block, opening}
use Prelude.{Owner, pending, Place, sees_as, spot, Stands, TableInvariant, view_in, Weak, weak}
use Prelude.{weak_in, WeakLeave, WeakShare}
use Rattle.control_word.proofs.history.Moving.{owner_counted}
use Rattle.control_word.proofs.steps.Look.{tells_expired}
use Rattle.control_word.proofs.steps.WeakLeave.{weak_leaves'}
use Rattle.control_word.proofs.steps.WeakShare.{weak_shares}
use Rattle.control_word.specs.declared.model.event.Event.TheVariants as event
use Rattle.control_word.specs.Events.{Asks, is_gone, place_at}
use Rattle.step_table.proofs.tables.Owners.{mine_as, some_owner}
use Rattle.step_table.proofs.tables.Places.{event_by, handle_busy, named, there}
use Rattle.step_table.proofs.tables.Standing.{point, ready, kept_after}

-- the place of a weak handle is that of the handle that it comes from, or the object's own
module _ (v : GhostState) (d : ℕ) (k : Kind) (b : Block) (p q : Option Place) (kept : TableInvariant v) (lt : d < v.extent.actors)
    (has : Has (held d (handle_in_block v k b p)) (model_state v).hands) where
  may_share : (q ≡ p) ⊎ (q ≡ place_at b.0) → Asks {V = Nothing} (model_state v) (me (point v d)) (event.WeakShare (object_of_block v b) q)
  may_share is =
      inl (
        handle_in_block v k b p,
        (mine_as v d k b p kept lt has, refl, refl),
        refl,
        ⊎_elim (λ (e : q ≡ p). inl e)
            (λ (e : q ≡ place_at b.0). inr (e ∙ ap place_at (sym (there v b kept (handle_busy v d k b p kept has)).0))) is,
      )

  pub kept_weak_share : pending v d ≡ Idle → (q ≡ p) ⊎ (q ≡ place_at b.0) → bag_size (model_state v) d < (model_state v).allowance d
      → TableInvariant (ghost_after_step v d (WeakShare b q))
  kept_weak_share idle is room =
      let e = event.WeakShare (object_of_block v b) q in
      let busy = handle_busy v d k b p kept has in
      kept_after v d (WeakShare b q) kept lt
      (event_by v d (set v.words (spot b.0 1) (suc (get_or v.words (spot b.0 1) 0))) Idle e kept lt
      (subst (λ (c : ℕ). Stands (opening v.extent) (set v.words (spot c 1) (suc (get_or v.words (spot c 1) 0)))
      (set v.views d (sees_as (view_in v.views d) Idle (entry (me (point v d)) e ∷ v.history))) (entry (me (point v d)) e ∷ v.history))
      (there v b kept busy).0
      (weak_shares (point v d) (object_of_block v b) q (ready v d Idle kept lt idle) busy (may_share is)
      (subst (λ (n : ℕ). bag_size (model_state v) n < (model_state v).allowance n) (sym (named v d kept lt)) room))))

leaving : (v : GhostState) (d : ℕ) (b : Block) (p : Option Place) → TableInvariant v → d < v.extent.actors → pending v d ≡ Idle
    → Has (held d (weak_in v b p)) (model_state v).hands
    → (0 < get_or v.words (spot b.0 1) 0)
    × (let e = event.WeakLeave (weak_in v b p) (get_or v.words (spot b.0 1) 0 == 1) in
    Stands (opening v.extent) (set v.words (spot b.0 1) (get_or v.words (spot b.0 1) 0 - 1))
    (set v.views d (sees_as (view_in v.views d) Idle (entry (me (point v d)) e ∷ v.history))) (entry (me (point v d)) e ∷ v.history))
leaving v d b p kept lt idle has =
    subst (λ (c : ℕ). (0 < get_or v.words (spot c 1) 0)
    × (let e = event.WeakLeave (weak_in v b p) (get_or v.words (spot c 1) 0 == 1) in
    Stands (opening v.extent) (set v.words (spot c 1) (get_or v.words (spot c 1) 0 - 1))
    (set v.views d (sees_as (view_in v.views d) Idle (entry (me (point v d)) e ∷ v.history))) (entry (me (point v d)) e ∷ v.history)))
    (there v b kept (handle_busy v d Weak b p kept has)).0
    (weak_leaves' (point v d) (object_of_block v b) p (ready v d Idle kept lt idle) (mine_as v d Weak b p kept lt has))

pub some_handle : (v : GhostState) (d : ℕ) (b : Block) (p : Option Place) → TableInvariant v → d < v.extent.actors → pending v d ≡ Idle
    → Has (held d (weak_in v b p)) (model_state v).hands → 0 < get_or v.words (spot b.0 1) 0
some_handle v d b p kept lt idle has = (leaving v d b p kept lt idle has).0

pub kept_weak_leave : (v : GhostState) (d : ℕ) (b : Block) (p : Option Place) (vacant : Bool) → TableInvariant v → d < v.extent.actors → pending v d ≡ Idle
    → Has (held d (weak_in v b p)) (model_state v).hands → vacant ≡ (get_or v.words (spot b.0 1) 0 == 1)
    → TableInvariant (ghost_after_step v d (WeakLeave b p vacant))
kept_weak_leave v d b p vacant kept lt idle has is =
    kept_after v d (WeakLeave b p vacant) kept lt
    (event_by v d (set v.words (spot b.0 1) (get_or v.words (spot b.0 1) 0 - 1)) Idle (event.WeakLeave (weak_in v b p) vacant) kept lt
    (subst (λ (l : Bool). let e = event.WeakLeave (weak_in v b p) l in
    Stands (opening v.extent) (set v.words (spot b.0 1) (get_or v.words (spot b.0 1) 0 - 1))
    (set v.views d (sees_as (view_in v.views d) Idle (entry (me (point v d)) e ∷ v.history))) (entry (me (point v d)) e ∷ v.history)) (sym is)
    (leaving v d b p kept lt idle has).1))

-- the event of a weak leave says whether the block is vacant
pub left_vacant : (v : GhostState) (d : ℕ) (b : Block) (p : Option Place) (vacant : Bool) → TableInvariant (ghost_after_step v d (WeakLeave b p vacant))
    → vacant ≡ (weak (model_state v) (object_of_block v b) == 1 && is_gone ((model_state v).object (object_of_block v b)).phase)
left_vacant v d b p vacant kept = kept.stands.legal.1.asks.1

-- the owner word is 0 just where no owner is left
pub none_left : (v : GhostState) (d : ℕ) (k : Kind) (b : Block) (p : Option Place) → TableInvariant v → d < v.extent.actors → pending v d ≡ Idle
    → Has (held d (handle_in_block v k b p)) (model_state v).hands
    → (get_or v.words (spot b.0 0) 0 == 0) ≡ (count (model_state v) (object_of_block v b) == 0)
none_left v d Owner b p kept lt idle has =
    let w = get_or v.words (spot b.0 0) 0 in
    let some = some_owner v d b p kept lt idle has in
    let one = owner_counted (model_state v) d (object_of_block v b) p has in
    ne_eqb w 0 (λ e. omega (arith, e, some)) ∙ sym (ne_eqb (count (model_state v) (object_of_block v b)) 0 (λ e. omega (arith, e, one)))
none_left v d Weak b p kept lt idle has =
    subst (λ (c : ℕ). (get_or v.words (spot c 0) 0 == 0) ≡ (count (model_state v) (object_of_block v b) == 0))
    (there v b kept (handle_busy v d Weak b p kept has)).0
    (tells_expired (point v d) (object_of_block v b) p (ready v d Idle kept lt idle) (mine_as v d Weak b p kept lt has)).legal.1.asks.1

pub kept_expired : (v : GhostState) (d : ℕ) (k : Kind) (b : Block) (p : Option Place) (expired : Bool) → TableInvariant v → d < v.extent.actors → pending v d
    ≡ Idle
    → Has (held d (handle_in_block v k b p)) (model_state v).hands → expired ≡ (count (model_state v) (object_of_block v b) == 0)
    → TableInvariant (ghost_after_step v d (Expired k b p expired))
kept_expired v d k b p expired kept lt idle has is =
    let r = ready v d Idle kept lt idle in
    kept_after v d (Expired k b p expired) kept lt
    (event_by v d v.words Idle (event.Expired (handle_in_block v k b p) expired) kept lt
    (look_event (opening v.extent) v.words v.views v.history kept.stands d (view_in v.views d) r.seated r.awake r.pending (object_of_block v b) p
    (event.Expired (handle_in_block v k b p) expired) tt ((mine_as v d k b p kept lt has, refl, refl), is) tt refl refl))
