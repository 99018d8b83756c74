-- What a step of a load or a compare adds to the totals: no object is made or ended by it.
use Rattle.std.proofs.Common.{◌≡◌, ℕ, ◌+◌, ◌≤◌, Bool, false, cond, List, [], ◌∷◌, is_some, Some}
use Rattle.std.proofs.Common.{None, Option, refl, ap, ◌∙◌, arith}
use Rattle.step_core.proofs.Prelude.{Act, cell_of_name, CellName, CellWord, Compare, Compared}
use Rattle.step_core.proofs.Prelude.{Ended, first, frame_steps, FrameView, GhostState, is_prepared}
use Rattle.step_core.proofs.Prelude.{Load, Matched, matched, model_state, PendingCall, Refill}
use Rattle.step_core.proofs.Prelude.{Rest, Saw, saw, Site, Stage, Step, step_at, step_of_act}
use Rattle.step_core.proofs.Prelude.{step_of_compare, Task, went}
use Rattle.step_table.specs.declared.cell_steps.cell_step.CellStep.TheVariants as cell_step
use Rattle.step_table.specs.declared.memory.ghost_history.AtomicStep.TheVariants as atomic_step
use Rattle.step_core.proofs.telling.Cases.{IsEach, IsEachAct, each_compares, each_load}
use Rattle.step_core.proofs.telling.Cases.{each_matched, each_refill, each_saw}
use Rattle.step_core.proofs.telling.AtomicSteps.{IsCounted, plus_none, quiet}
use Rattle.step_core.proofs.telling.Leaves.{ends_by, leaves_by, none_ends}
use Rattle.step_core.proofs.telling.Walking.{went_plain}

-- an act by which nothing leaves, and no object ends
each_counted : (v : GhostState) (d k : ℕ) (h : PendingCall) (w : FrameView) (t : Task) (ts : List Task) (a : Act) (c : Site) → is_prepared h ≡ false
    → w.endings ≡ [] → w.todo ≡ t ∷ ts → leaves_by w.slots a ≡ None
    → IsEach v d w k ts a c (λ (x : Step). IsCounted v d h w (Some x))
each_counted v d k h w t ts a c e none is stays =
    let z : ◌≡◌ {A = ℕ} (cond (is_prepared h) 1 0) 0 = ap (λ (b : Bool). cond b 1 0) e in
    let n : ◌≡◌ {A = ℕ} (cond (is_some (ends_by v d w a)) 1 0) 0 = ap (λ (o : Option Ended). cond (is_some o) 1 0) (none_ends v d w a stays) in
    let l = went_plain (model_state v) d k w t ts a none is stays in
    record {
      quiet = λ h'. quiet v d k h h' w w None (omega arith);
      look = λ x y. looked z n l x y;
      take = λ x y h'. taken z n l x y h';
      swap = λ x y h'. record { made = omega (arith, z); ended = omega (arith, n); few = omega (arith, l, z, n) };
      bring = λ x p. record { made = plus_none _; ended = plus_none _; few = omega arith };
    }
  where
    looked : ◌≡◌ {A = ℕ} (cond (is_prepared h) 1 0) 0 → ◌≡◌ {A = ℕ} (cond (is_some (ends_by v d w a)) 1 0) 0
        → frame_steps (went (model_state v) d w k ts a) + 2 ≤ frame_steps w → (x : CellWord) (y : Option Compared)
        → IsCounted v d h w (Some (step_of_act v d w k ts a (Some (atomic_step.OnCell (cell_step.Look c x y))) Rest))
    looked z n l x None = record { made = omega (arith, z); ended = omega (arith, n); few = omega (arith, l, z, n) }
    looked z n l x (Some y) = record { made = omega (arith, z); ended = omega (arith, n); few = omega (arith, l, z, n) }

    taken : ◌≡◌ {A = ℕ} (cond (is_prepared h) 1 0) 0 → ◌≡◌ {A = ℕ} (cond (is_some (ends_by v d w a)) 1 0) 0
        → frame_steps (went (model_state v) d w k ts a) + 2 ≤ frame_steps w → (x : CellWord) (y : Option Compared) (h' : PendingCall)
        → IsCounted v d h w (Some (step_of_act v d w k ts a (Some (atomic_step.OnCell (cell_step.Take c x y))) h'))
    taken z n l x None h' = record { made = omega (arith, z); ended = omega (arith, n); few = omega (arith, l, z, n) }
    taken z n l x (Some y) h' = record { made = omega (arith, z); ended = omega (arith, n); few = omega (arith, l, z, n) }

pub load_one : (v : GhostState) (d k : ℕ) (w : FrameView) (t : Task) (ts : List Task) (c : CellName) → w.endings ≡ [] → w.todo ≡ t ∷ ts
    → IsCounted v d Rest w (Some (first v d w k ts (Load c)))
load_one v d k w t ts c none is =
    let l = went_plain (model_state v) d k w t ts (Load c) none is refl in
    each_load v d w k ts c (λ (s : Step). IsCounted v d Rest w (Some s))
    (each_counted v d k Rest w t ts (Load c) (cell_of_name (model_state v) w.slots c) refl none is refl)
    (quiet v d k Rest Rest w (went (model_state v) d w k ts (Load c)) _ (omega (arith, l)))

pub compares_one : (v : GhostState) (d k : ℕ) (w : FrameView) (t : Task) (ts : List Task) (a : Act) (c : Site) (y : Compared) (x : CellWord)
    → w.endings ≡ [] → w.todo ≡ t ∷ ts → leaves_by w.slots a ≡ None
    → IsCounted v d Rest w (Some (step_of_compare v d w k ts a c y x))
compares_one v d k w t ts a c y x none is stays =
    each_compares v d w k ts a c (λ (s : Step). IsCounted v d Rest w (Some s)) (each_counted v d k Rest w t ts a c refl none is stays) y x

-- what is under way goes on
none_counted : (v : GhostState) (d : ℕ) (h : PendingCall) (w : FrameView) → IsCounted v d h w None
none_counted v d h w = record { made = plus_none _; ended = plus_none _; few = omega arith }

act_counted : (v : GhostState) (d : ℕ) (h : PendingCall) (w : FrameView) (t : Task) (ts : List Task) → is_prepared h ≡ false → w.endings ≡ [] → w.todo ≡ t ∷ ts
    → IsEachAct v d w t.statement ts (λ (o : Option Step). IsCounted v d h w o)
act_counted v d h w t ts e none is = record {
  none = none_counted v d h w;
  load = λ c. each_counted v d t.statement h w t ts (Load c) (cell_of_name (model_state v) w.slots c) e none is refl;
  compare = λ i c weak. each_counted v d t.statement h w t ts (Compare i c weak) (cell_of_name (model_state v) w.slots c) e none is refl;
}

pub counted_saw : (v : GhostState) (d : ℕ) (w : FrameView) (x : CellWord) (ts : List Task) → w.endings ≡ [] → w.todo ≡ ts
    → IsCounted v d (Saw x) w (saw v d w x ts)
counted_saw v d w x ts none is =
    each_saw v d w (λ (o : Option Step). IsCounted v d (Saw x) w o) x ts (none_counted v d (Saw x) w)
    (λ t us e. act_counted v d (Saw x) w t us refl none (is ∙ e))

pub counted_match : (v : GhostState) (d : ℕ) (w : FrameView) (x : CellWord) (ts : List Task) → w.endings ≡ [] → w.todo ≡ ts
    → IsCounted v d (Matched x) w (matched v d w x ts)
counted_match v d w x ts none is =
    each_matched v d w (λ (o : Option Step). IsCounted v d (Matched x) w o) x ts (none_counted v d (Matched x) w)
    (λ t us e. act_counted v d (Matched x) w t us refl none (is ∙ e))

pub counted_refill : (v : GhostState) (d : ℕ) (stage : Stage) (c : Site) (x : CellWord) (k : ℕ) (w : FrameView)
    → IsCounted v d (Refill stage c x k) w (step_at v d (Refill stage c x k) w)
counted_refill v d stage c x k w =
    let h = Refill stage c x k in
    each_refill v w k (λ (o : Option Step). IsCounted v d h w o) (none_counted v d h w) (record {
      quiet = λ h'. record { made = plus_none _; ended = plus_none _; few = omega arith };
      turn = λ kind b h'. record { made = plus_none _; ended = plus_none _; few = omega arith };
      bring = λ kind b p n h'. record { made = plus_none _; ended = plus_none _; few = omega arith };
      back = λ kind b n h'. record { made = plus_none _; ended = plus_none _; few = omega arith };
      refill = λ c n h'. record { made = plus_none _; ended = plus_none _; few = omega arith };
    }) stage c x x.owned
