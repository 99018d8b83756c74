-- A step that waits is no event.
use Rattle.std.proofs.Common.{◌≡◌, ℕ, Bool, true, false, cond, not, ◌&&◌, ◌⊎◌, List, [], ◌∷◌}
use Rattle.std.proofs.Common.{is_some, Some, None, sym, refl, ap, ◌∙◌, subst, inl, inr}
use Rattle.step_core.proofs.Prelude
use Prelude.{abstraction, Act, Alias, as_word, Ask, at_rest, begun, Brought, cell_of_name, Clear}
use Prelude.{Clearing, Compare, compared_in, comparing, Count, Downgrade, Drop, Ending, Exchange}
use Prelude.{Expired, false≢true, first, frame_of, FrameView, FromThis, ghost_after, ghost_by}
use Prelude.{GhostState, Giving, Holds, is_spent, is_there, Leave, Load, Lock, Locking, Make}
use Prelude.{Making, Matched, model_state, Move, Offer, OnShelf, pending_call_of, PendingCall, Put}
use Prelude.{Read, Refill, Rest, Returning, same_value, Saw, seen, Share, slot_value, Step}
use Prelude.{step_at, step_of, step_of_act, Stepped, stepped, Steps, Swap, Task, Waited, waits}
use Prelude.{waits_at, waits_on, within, WorldState}
use Rattle.step_table.specs.declared.cell_steps.cell_step.CellStep.TheVariants as cell_step
use Rattle.step_table.specs.declared.memory.ghost_history.AtomicStep.TheVariants as atomic_step

-- a thread that waits does nothing
abbrev Quiet : GhostState → ℕ → Bool → GhostState → Type 0
Quiet v d waited v' = waited ≡ true → v' ≡ v

spent : (v : GhostState) (d k : ℕ) (w : FrameView) (x : Step) (b : Bool) → Quiet v d b (ghost_after v d (cond b (within w k None Rest) x).atomic_step)
spent v d k w x true e = refl
spent v d k w x false e = absurd (false≢true e)

guarded : (v : GhostState) (d k : ℕ) (w : FrameView) (x y : Step) (there b : Bool)
    → Quiet v d (there && b) (ghost_after v d (cond there (cond b (within w k None Rest) x) y).atomic_step)
guarded v d k w x y true b e = spent v d k w x b e
guarded v d k w x y false b e = absurd (false≢true e)

differs : (v : GhostState) (d k : ℕ) (w : FrameView) (x y : Step) (same b : Bool)
    → Quiet v d (not same && b) (ghost_after v d (cond same y (cond b (within w k None Rest) x)).atomic_step)
differs v d k w x y true b e = absurd (false≢true e)
differs v d k w x y false b e = spent v d k w x b e

act_quiet : (v : GhostState) (d k : ℕ) (w : FrameView) (ts : List Task) (a : Act) → Quiet v d (waits_on v w a)
    (ghost_after v d (first v d w k ts a).atomic_step)
act_quiet v d k w ts (Load c) e =
    let z = cell_of_name (model_state v) w.slots c in
    let x = seen v z in
    guarded v d k w (cond (is_some x.owned) (within w k None (Saw x))
    (step_of_act v d w k ts (Load c) (Some (atomic_step.OnCell (cell_step.Look z x None))) Rest))
    (step_of_act v d w k ts (Load c) None Rest) (is_there w.slots c) (is_spent x) e
act_quiet v d k w ts (Compare i c weak) e =
    let z = cell_of_name (model_state v) w.slots c in
    let x = seen v z in
    let y = compared_in w.slots (comparing w.slots i weak) in
    let look = step_of_act v d w k ts (Compare i c weak) (Some (atomic_step.OnCell (cell_step.Look z x (Some y)))) Rest in
    differs v d k w (cond (is_some x.owned) (within w k None (Saw x)) look) (within w k None (Saw x)) (same_value x (as_word (slot_value w.slots i)))
    (is_spent x) e
act_quiet v d k w ts (Make form) e = absurd (false≢true e)
act_quiet v d k w ts (Share i) e = absurd (false≢true e)
act_quiet v d k w ts (Downgrade i) e = absurd (false≢true e)
act_quiet v d k w ts (Lock i must) e = absurd (false≢true e)
act_quiet v d k w ts (Put i) e = absurd (false≢true e)
act_quiet v d k w ts (Leave i) e = absurd (false≢true e)
act_quiet v d k w ts (Clear i) e = absurd (false≢true e)
act_quiet v d k w ts (Count i) e = absurd (false≢true e)
act_quiet v d k w ts (Expired i) e = absurd (false≢true e)
act_quiet v d k w ts (Read i) e = absurd (false≢true e)
act_quiet v d k w ts (FromThis i kind) e = absurd (false≢true e)
act_quiet v d k w ts (Alias i j field) e = absurd (false≢true e)
act_quiet v d k w ts (Move i) e = absurd (false≢true e)
act_quiet v d k w ts (Ask q) e = absurd (false≢true e)
act_quiet v d k w ts (Offer i c) e = absurd (false≢true e)
act_quiet v d k w ts (Swap c) e = absurd (false≢true e)
act_quiet v d k w ts (Exchange i c) e = absurd (false≢true e)
act_quiet v d k w ts (Holds i c) e = absurd (false≢true e)
act_quiet v d k w ts Drop e = absurd (false≢true e)
act_quiet v d k w ts (OnShelf x) e = absurd (false≢true e)

rest_quiet : (v : GhostState) (d : ℕ) (w : FrameView) (es : List Ending) (ts : List Task) → w.todo ≡ ts
    → Quiet v d (waits_at v w es ts) (ghost_by v d (at_rest v d w es))
rest_quiet v d w [] [] is e = absurd (false≢true e)
rest_quiet v d w [] (t ∷ ts) is e =
    subst (λ (l : List Task). ghost_by v d (begun v d w l) ≡ v) (sym is) (act_quiet v d t.statement w ts t.act e)
rest_quiet v d w (x ∷ es) ts is e = absurd (false≢true e)

quiet : (v : GhostState) (d : ℕ) (h : PendingCall) (w : FrameView) → Quiet v d (waits v h w) (ghost_by v d (step_at v d h w))
quiet v d Rest w e = rest_quiet v d w w.endings w.todo refl e
quiet v d (Making b i differs) w e = absurd (false≢true e)
quiet v d (Locking word) w e = absurd (false≢true e)
quiet v d (Giving i kind x) w e = absurd (false≢true e)
quiet v d Brought w e = absurd (false≢true e)
quiet v d (Saw x) w e = absurd (false≢true e)
quiet v d (Matched x) w e = absurd (false≢true e)
quiet v d (Refill stage c x k) w e = absurd (false≢true e)
quiet v d (Returning kind b funds k) w e = absurd (false≢true e)
quiet v d Clearing w e = absurd (false≢true e)

-- a step waited and did nothing, or answered as it is
abbrev pub IsTold : ℕ → WorldState → Stepped → WorldState → Type 0
IsTold d u r u' =
    ((r ≡ Waited) × (u'.ghost_state.history ≡ u.ghost_state.history))
    ⊎ ((r ≡ stepped u.ghost_state (step_of d u)) × (u'.ghost_state.history ≡ (ghost_by u.ghost_state d (step_of d u)).history))

pub told_at : (d : ℕ) (u : WorldState) (r : Stepped) (u' : WorldState) → Steps d u r u' → IsTold d u r u'
told_at d u r u' steps = go (waits u.ghost_state (pending_call_of u d) (frame_of (abstraction u) d)) refl steps.0
  where
    moved : u'.ghost_state.history ≡ (ghost_by u.ghost_state d (step_of d u)).history
    moved = ap (λ (m : WorldState). m.ghost_state.history) steps.1

    go : (b : Bool) → waits u.ghost_state (pending_call_of u d) (frame_of (abstraction u) d) ≡ b → r ≡ cond b Waited (stepped u.ghost_state (step_of d u)) →
        IsTold d u r u'
    go true is e = inl (e, moved ∙ ap (λ (v : GhostState). v.history) (quiet u.ghost_state d (pending_call_of u d) (frame_of (abstraction u) d) is))
    go false is e = inr (e, moved)
