-- By loads and compares no object begins to end.
use Rattle.std.proofs.Common.{◌≡◌, ℕ, List, Some, None, Option, refl}
use Rattle.step_core.proofs.Prelude
use Prelude.{Act, AllEndInThreads, cell_in, cell_of_name, CellName, CellWord, Compare, Compared}
use Prelude.{first, FrameView, ghost_after, GhostState, handle_told, Load, Matched, matched}
use Prelude.{model_state, Refill, Rest, saw, Site, Stage, Step, step_at, step_of_compare, Task}
use Rattle.step_table.specs.declared.cell_steps.cell_step.CellStep.TheVariants as cell_step
use Rattle.step_table.specs.declared.memory.ghost_history.AtomicStep.TheVariants as atomic_step
use Rattle.step_core.proofs.telling.Cases.{IsEach, IsEachAct, each_compares, each_load}
use Rattle.step_core.proofs.telling.Cases.{each_matched, each_refill, each_saw}
use Rattle.step_core.proofs.telling.Leaves.{leaves_by}
use Rattle.step_core.proofs.telling.Still.{Lists, Right, fills_alike, plain, plain_alike, same}
use Rattle.step_core.proofs.telling.Still.{within}

still_looked : (v : GhostState) (d : ℕ) (c : Site) (x : CellWord) (y : Option Compared)
    → (model_state (ghost_after v d (Some (atomic_step.OnCell (cell_step.Look c x y))))).object ≡ (model_state v).object
still_looked v d c x None = refl
still_looked v d c x (Some y) = refl

still_taken : (v : GhostState) (d : ℕ) (c : Site) (x : CellWord) (y : Option Compared)
    → (model_state (ghost_after v d (Some (atomic_step.OnCell (cell_step.Take c x y))))).object ≡ (model_state v).object
still_taken v d c x None = refl
still_taken v d c x (Some y) = refl

each_right : (v : GhostState) (d k : ℕ) (w : FrameView) (ts : List Task) (a : Act) (c : CellName) (f : Lists) → leaves_by w.slots a ≡ None
    → f d ≡ w.endings
    → AllEndInThreads (model_state v) f → IsEach v d w k ts a (cell_of_name (model_state v) w.slots c) (λ (x : Step). Right v d w f (Some x))
each_right v d k w ts a c f stays at all =
    let z = cell_of_name (model_state v) w.slots c in
    record {
      quiet = λ h. within v d k w None h f refl at all;
      look = λ x y. plain v d k w ts a (Some (atomic_step.OnCell (cell_step.Look z x y))) Rest f stays (still_looked v d z x y) at all;
      take = λ x y h. plain v d k w ts a (Some (atomic_step.OnCell (cell_step.Take z x y))) h f stays (still_taken v d z x y) at all;
      swap = λ x y h.
          plain_alike v d k w ts a (Some (atomic_step.OnCell (cell_step.CompareSwap z x y))) h f stays
          (fills_alike (model_state v) d (cell_in (model_state v) z) (handle_told (model_state v) z y.new) (handle_told (model_state v) z x)) at all;
      bring = λ x p. within v d k w (Some (atomic_step.OnCell (cell_step.Bring p.kind p.block p.place 256))) (Matched x) f refl at all;
    }

pub load_on : (v : GhostState) (d k : ℕ) (w : FrameView) (ts : List Task) (c : CellName) (f : Lists) → f d ≡ w.endings → AllEndInThreads (model_state v) f
    → Right v d w f (Some (first v d w k ts (Load c)))
load_on v d k w ts c f at all =
    each_load v d w k ts c (λ (s : Step). Right v d w f (Some s)) (each_right v d k w ts (Load c) c f refl at all)
    (plain v d k w ts (Load c) None Rest f refl refl at all)

pub compares_on : (v : GhostState) (d k : ℕ) (w : FrameView) (ts : List Task) (a : Act) (c : CellName) (y : Compared) (x : CellWord) (f : Lists)
    → leaves_by w.slots a ≡ None → f d ≡ w.endings → AllEndInThreads (model_state v) f
    → Right v d w f (Some (step_of_compare v d w k ts a (cell_of_name (model_state v) w.slots c) y x))
compares_on v d k w ts a c y x f stays at all =
    each_compares v d w k ts a (cell_of_name (model_state v) w.slots c) (λ (s : Step). Right v d w f (Some s)) (each_right v d k w ts a c f stays at all) y x

act_right : (v : GhostState) (d k : ℕ) (w : FrameView) (ts : List Task) (f : Lists) → f d ≡ w.endings → AllEndInThreads (model_state v) f
    → IsEachAct v d w k ts (λ (o : Option Step). Right v d w f o)
act_right v d k w ts f at all = record {
  none = same v d w f None refl refl at all;
  load = λ c. each_right v d k w ts (Load c) c f refl at all;
  compare = λ i c weak. each_right v d k w ts (Compare i c weak) c f refl at all;
}

pub saw_on : (v : GhostState) (d : ℕ) (x : CellWord) (w : FrameView) (f : Lists) → f d ≡ w.endings → AllEndInThreads (model_state v) f → (ts : List Task)
    → Right v d w f (saw v d w x ts)
saw_on v d x w f at all ts =
    each_saw v d w (λ (o : Option Step). Right v d w f o) x ts (same v d w f None refl refl at all)
    (λ t us e. act_right v d t.statement w us f at all)

pub matched_on : (v : GhostState) (d : ℕ) (x : CellWord) (w : FrameView) (f : Lists) → f d ≡ w.endings → AllEndInThreads (model_state v) f → (ts : List Task)
    → Right v d w f (matched v d w x ts)
matched_on v d x w f at all ts =
    each_matched v d w (λ (o : Option Step). Right v d w f o) x ts (same v d w f None refl refl at all)
    (λ t us e. act_right v d t.statement w us f at all)

pub refill_on : (v : GhostState) (d : ℕ) (stage : Stage) (c : Site) (x : CellWord) (k : ℕ) (w : FrameView) (f : Lists) → f d ≡ w.endings
    → AllEndInThreads (model_state v) f
    → Right v d w f (step_at v d (Refill stage c x k) w)
refill_on v d stage c x k w f at all =
    each_refill v w k (λ (o : Option Step). Right v d w f o) (same v d w f None refl refl at all) (record {
      quiet = λ h. within v d k w None h f refl at all;
      turn = λ kind b h. within v d k w (Some (atomic_step.OnCell (cell_step.Turn kind b))) h f refl at all;
      bring = λ kind b p n h. within v d k w (Some (atomic_step.OnCell (cell_step.Bring kind b p n))) h f refl at all;
      back = λ kind b n h. within v d k w (Some (atomic_step.OnCell (cell_step.GiveBack kind b n))) h f refl at all;
      refill = λ z n h. within v d k w (Some (atomic_step.OnCell (cell_step.Refill z n))) h f refl at all;
    }) stage c x x.owned
