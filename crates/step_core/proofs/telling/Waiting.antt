-- A step that waits adds nothing to the totals, as it is no event; and one that doesn't says so.
use Rattle.std.proofs.Common.{◌≡◌, ℕ, Bool, true, false, cond, not, ◌&&◌, ◌≢◌, List, [], ◌∷◌}
use Rattle.std.proofs.Common.{is_some, Some, None, Option, sym, refl, ap, ◌∙◌}
use Rattle.step_core.proofs.Prelude
use Prelude.{Act, Alias, answered, as_word, Ask, at_rest, atomic_step_is_event, begun, Brought}
use Prelude.{cell_of_name, Clear, Clearing, Compare, compared_in, comparing, Count, Downgrade}
use Prelude.{Drop, Ending, Exchange, Expired, first, FrameView, FromThis, GhostState, Giving}
use Prelude.{Holds, is_spent, is_there, Leave, Load, Lock, Locking, Make, Making, Matched}
use Prelude.{model_state, Move, Offer, OnShelf, PendingCall, Put, Quiet, Read, Refill, Rest}
use Prelude.{Returning, same_value, Saw, seen, Share, slot_value, Step, step_at, step_ends}
use Prelude.{step_makes, step_of_act, Stepped, stepped, Swap, Task, Waited, waits, waits_at}
use Prelude.{waits_on, within}
use Rattle.step_table.specs.declared.cell_steps.cell_step.CellStep.TheVariants as cell_step
use Rattle.step_table.specs.declared.memory.ghost_history.AtomicStep.TheVariants as atomic_step
use Rattle.step_threads.specs.declared.said.Stepped.TheVariants.{Event}

-- two answers of a step of a thread at rest that add as much
abbrev Adds : Stepped → Stepped → Type 0
Adds r r' = (step_makes Rest r ≡ step_makes Rest r') × (step_ends r ≡ step_ends r')

-- a step that looks at a cell all of whose funds were taken does nothing
spent : (v : GhostState) (k : ℕ) (w : FrameView) (x : Step) (b : Bool)
    → let s = cond b (within w k None Rest) x in Adds (cond b Waited (stepped v (Some s))) (stepped v (Some s))
spent v k w x true = (refl, refl)
spent v k w x false = (refl, refl)

-- one whose cell isn't there is refused
there : (v : GhostState) (k : ℕ) (w : FrameView) (x y : Step) (is b : Bool)
    → let s = cond is (cond b (within w k None Rest) x) y in Adds (cond (is && b) Waited (stepped v (Some s))) (stepped v (Some s))
there v k w x y true b = spent v k w x b
there v k w x y false b = (refl, refl)

differs : (v : GhostState) (k : ℕ) (w : FrameView) (x y : Step) (same b : Bool)
    → let s = cond same y (cond b (within w k None Rest) x) in Adds (cond (not same && b) Waited (stepped v (Some s))) (stepped v (Some s))
differs v k w x y true b = (refl, refl)
differs v k w x y false true = (refl, refl)
differs v k w x y false false = (refl, refl)

act_adds : (v : GhostState) (d k : ℕ) (w : FrameView) (ts : List Task) (a : Act)
    → let r = stepped v (Some (first v d w k ts a)) in Adds (cond (waits_on v w a) Waited r) r
act_adds v d k w ts (Load c) =
    let z = cell_of_name (model_state v) w.slots c in
    let x = seen v z in
    there v k w
    (cond (is_some x.owned) (within w k None (Saw x)) (step_of_act v d w k ts (Load c) (Some (atomic_step.OnCell (cell_step.Look z x None))) Rest))
    (step_of_act v d w k ts (Load c) None Rest) (is_there w.slots c) (is_spent x)
act_adds v d k w ts (Compare i c weak) =
    let z = cell_of_name (model_state v) w.slots c in
    let x = seen v z in
    let y = compared_in w.slots (comparing w.slots i weak) in
    let look = step_of_act v d w k ts (Compare i c weak) (Some (atomic_step.OnCell (cell_step.Look z x (Some y)))) Rest in
    differs v k w (cond (is_some x.owned) (within w k None (Saw x)) look) (within w k None (Saw x)) (same_value x (as_word (slot_value w.slots i)))
    (is_spent x)
act_adds v d k w ts (Make form) = (refl, refl)
act_adds v d k w ts (Share i) = (refl, refl)
act_adds v d k w ts (Downgrade i) = (refl, refl)
act_adds v d k w ts (Lock i must) = (refl, refl)
act_adds v d k w ts (Put i) = (refl, refl)
act_adds v d k w ts (Leave i) = (refl, refl)
act_adds v d k w ts (Clear i) = (refl, refl)
act_adds v d k w ts (Count i) = (refl, refl)
act_adds v d k w ts (Expired i) = (refl, refl)
act_adds v d k w ts (Read i) = (refl, refl)
act_adds v d k w ts (FromThis i kind) = (refl, refl)
act_adds v d k w ts (Alias i j field) = (refl, refl)
act_adds v d k w ts (Move i) = (refl, refl)
act_adds v d k w ts (Ask q) = (refl, refl)
act_adds v d k w ts (Offer i c) = (refl, refl)
act_adds v d k w ts (Swap c) = (refl, refl)
act_adds v d k w ts (Exchange i c) = (refl, refl)
act_adds v d k w ts (Holds i c) = (refl, refl)
act_adds v d k w ts Drop = (refl, refl)
act_adds v d k w ts (OnShelf x) = (refl, refl)

task_adds : (v : GhostState) (d : ℕ) (w : FrameView) (ts : List Task) → let r = stepped v (begun v d w ts) in Adds (cond (waits_at v w [] ts) Waited r) r
task_adds v d w [] = (refl, refl)
task_adds v d w (t ∷ ts) = act_adds v d t.statement w ts t.act

rest_adds : (v : GhostState) (d : ℕ) (w : FrameView) (es : List Ending)
    → let r = stepped v (at_rest v d w es) in Adds (cond (waits_at v w es w.todo) Waited r) r
rest_adds v d w [] = task_adds v d w w.todo
rest_adds v d w (e ∷ es) = (refl, refl)

pub answered_adds : (v : GhostState) (d : ℕ) (h : PendingCall) (w : FrameView)
    → let r = stepped v (step_at v d h w) in (step_makes h (answered v d h w) ≡ step_makes h r) × (step_ends (answered v d h w) ≡ step_ends r)
answered_adds v d Rest w = rest_adds v d w w.endings
answered_adds v d (Making b i differs) w = (refl, refl)
answered_adds v d (Locking word) w = (refl, refl)
answered_adds v d (Giving i kind x) w = (refl, refl)
answered_adds v d Brought w = (refl, refl)
answered_adds v d (Saw x) w = (refl, refl)
answered_adds v d (Matched x) w = (refl, refl)
answered_adds v d (Refill stage c x k) w = (refl, refl)
answered_adds v d (Returning kind b funds k) w = (refl, refl)
answered_adds v d Clearing w = (refl, refl)

-- a step that doesn't wait says so
stepped_on : (v : GhostState) (x : Option Step) → stepped v x ≢ Waited
stepped_on v None e = cc
stepped_on v (Some x) e = go (atomic_step_is_event v x.atomic_step) e
  where
    go : (b : Bool) → cond b (Event x.said) (Quiet x.said) ≡ Waited → ⊥
    go true f = cc
    go false f = cc

pub never_waits : (v : GhostState) (d : ℕ) (h : PendingCall) (w : FrameView) (r : Stepped) → waits v h w ≡ false → r ≡ answered v d h w → r ≢ Waited
never_waits v d h w r e is f =
    let g : answered v d h w ≡ stepped v (step_at v d h w) = ap (λ (b : Bool). cond b Waited (stepped v (step_at v d h w))) e in
    stepped_on v (step_at v d h w) (sym g ∙ sym is ∙ f)
