-- What a step takes from the steps that its thread has left.
use Rattle.std.proofs.Common.{◌≡◌, ℕ, ◌+◌, ◌*◌, ◌<◌, ◌≤◌, Bool, true, false, cond, List, [], ◌∷◌}
use Rattle.std.proofs.Common.{is_some, ◌==◌, Some, None, Option, option_map, refl, ap, arith}
use Rattle.std.proofs.Common.{eq-eqb}
use Rattle.step_core.proofs.Prelude
use Prelude.{Act, alone, AtomicStep, CellWord, ended_by, frame_steps, FrameView, ghost_after}
use Prelude.{GhostState, Handle, is_last, is_prepared, Kind, leave, leave_as, lock_word, Locking}
use Prelude.{Matched, model_state, owned, Owner, PendingCall, remains_as, Rest, Saw, shows_next}
use Prelude.{spare, Step, step_ends, step_makes, step_of_act, Stepped, Task, Weak}
use Rattle.step_threads.specs.declared.said.Stepped.TheVariants as stepped
use Rattle.step_threads.specs.NextSteps.{stepped as stepped_by}
use Rattle.step_core.proofs.telling.Leaves.{leaves_by}
use Rattle.step_core.proofs.telling.Walking.{ends_at, went_plain}

pub alone_of_lock : (v : GhostState) (w : FrameView) (word : ℕ) → (14 ≤ alone v w (Locking word)) × (alone v w (Locking word) ≤ 16)
alone_of_lock v w word = go (lock_word v w.slots w.todo == word)
  where
    go : (b : Bool) → (14 ≤ cond b 14 16) × (cond b 14 16 ≤ 16)
    go true = (omega arith, omega arith)
    go false = (omega arith, omega arith)

pub alone_same : (v : GhostState) (w : FrameView) (word : ℕ) → lock_word v w.slots w.todo ≡ word → alone v w (Locking word) ≡ 14
alone_same v w word is = ap {B = ℕ} (λ (b : Bool). cond b 14 16) (eq-eqb _ _ is)

pub alone_other : (v : GhostState) (w : FrameView) (word : ℕ) → (lock_word v w.slots w.todo == word) ≡ false → alone v w (Locking word) ≡ 16
alone_other v w word is = ap {B = ℕ} (λ (b : Bool). cond b 14 16) is

-- what was seen is shown still, or isn't
pub alone_saw : (v : GhostState) (w : FrameView) (x : CellWord) (b : Bool) → shows_next v w.slots x w.todo ≡ b → alone v w (Saw x) ≡ cond b 14 18
alone_saw v w x b is = ap {B = ℕ} (λ (t : Bool). cond t 14 18) is

pub alone_matched : (v : GhostState) (w : FrameView) (x : CellWord) (b : Bool) → shows_next v w.slots x w.todo ≡ b → alone v w (Matched x) ≡ cond b 13 17
alone_matched v w x b is = ap {B = ℕ} (λ (t : Bool). cond t 13 17) is

-- A step leaves the thread with fewer steps, where it runs alone, and never with more. An object that is made has the
-- steps of its end, and one whose last owner left gives them to its ending
pub record Lessens (v v' : GhostState) (h h' : PendingCall) (w w' : FrameView) (made ended : ℕ) : Type 0 where
  pub own : frame_steps w' + 13 * made + alone v' w' h' < frame_steps w + 13 * ended + alone v w h
  pub most : frame_steps w' + 13 * made + spare h' ≤ frame_steps w + 13 * ended + spare h

-- no step, just at the end; or the thread has fewer steps left than it had, with h begun
abbrev pub IsLess : GhostState → ℕ → PendingCall → FrameView → Option Step → Type 0
IsLess v d h w None = (w.todo ≡ []) × (w.endings ≡ []) × (h ≡ Rest)
IsLess v d h w (Some x) =
    Lessens v (ghost_after v d x.atomic_step) h x.pending_call w x.frame_view (step_makes h (stepped_by v (Some x))) (step_ends (stepped_by v (Some x)))

-- none is made but by a make that is prepared
pub none_made : (h : PendingCall) (r : Stepped) → is_prepared h ≡ false → step_makes h r ≡ 0
none_made h (stepped.Event x) e = ap (λ (b : Bool). cond b 1 0) e
none_made h (stepped.Quiet x) e = refl
none_made h stepped.Waited e = refl
none_made h stepped.Done e = refl

pub one_made : (h : PendingCall) (r : Stepped) → step_makes h r ≤ 1
one_made h (stepped.Event x) = go (is_prepared h)
  where
    go : (b : Bool) → cond b 1 0 ≤ 1
    go true = omega arith
    go false = omega arith
one_made h (stepped.Quiet x) = omega arith
one_made h stepped.Waited = omega arith
one_made h stepped.Done = omega arith

-- the act is done by which nothing leaves
pub plain_less : (v : GhostState) (d k : ℕ) (h : PendingCall) (w : FrameView) (t : Task) (ts : List Task) (a : Act) (x : Option AtomicStep) → is_prepared h ≡
    false
    → leaves_by w.slots a ≡ None → w.endings ≡ [] → w.todo ≡ t ∷ ts → 14 ≤ alone v w h → 14 ≤ spare h
    → IsLess v d h w (Some (step_of_act v d w k ts a x Rest))
plain_less v d k h w t ts a x unmade stays none is own most =
    let l = went_plain (model_state v) d k w t ts a none is stays in
    let m = none_made h (stepped_by v (Some (step_of_act v d w k ts a x Rest))) unmade in
    record { own = omega (arith, l, m, own); most = omega (arith, l, m, most) }

-- the steps that an object's end gets are told
left_ends : (v : GhostState) (d k : ℕ) (x : FrameView) (o : Option Handle)
    → step_ends (stepped_by v (Some (record {
      atomic_step = option_map (leave (model_state v)) o;
      pending_call = Rest;
      frame_view = x;
      said = record { statement = k; answer = None; ended = ended_by (model_state v) o };
    }))) ≡ ends_at (model_state v) o
left_ends v d k x None = refl
left_ends v d k x (Some y) = go y.kind (is_last (model_state v) y)
  where
    go : (q : Kind) (b : Bool) → step_ends (stepped_by v (Some (record {
      atomic_step = Some (leave_as q y b);
      pending_call = Rest;
      frame_view = x;
      said = record { statement = k; answer = None; ended = cond b (remains_as q ((model_state v).object (owned (model_state v) y))) None };
    }))) ≡ cond (is_some (cond b (remains_as q ((model_state v).object (owned (model_state v) y))) None)) 1 0
    go Owner b = refl
    go Weak true = refl
    go Weak false = refl

-- so it is where a pointer leaves
pub left_less : (v : GhostState) (d k : ℕ) (w x : FrameView) (o : Option Handle) → frame_steps x + 1 ≤ frame_steps w + 13 * ends_at (model_state v) o
    → IsLess v d Rest w (Some (record {
      atomic_step = option_map (leave (model_state v)) o;
      pending_call = Rest;
      frame_view = x;
      said = record { statement = k; answer = None; ended = ended_by (model_state v) o };
    }))
left_less v d k w x o le =
    let y : Step = record {
      atomic_step = option_map (leave (model_state v)) o;
      pending_call = Rest;
      frame_view = x;
      said = record { statement = k; answer = None; ended = ended_by (model_state v) o };
    } in
    let m = none_made Rest (stepped_by v (Some y)) refl in
    let e = left_ends v d k x o in
    record { own = omega (arith, le, m, e); most = omega (arith, le, m, e) }
