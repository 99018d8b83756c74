-- What an atomic step adds to the totals, and what is left by it.
use Rattle.std.proofs.Common.{◌≡◌, ℕ, ◌+◌, ◌*◌, ◌≤◌, Bool, true, false, cond, is_some, Some, None}
use Rattle.std.proofs.Common.{Option, option_map, sym, refl, ap, ◌∙◌, arith}
use Rattle.step_core.proofs.Prelude
use Prelude.{alias, Answer, CellWord, downgrade, ended_by, ended_in, entry, frame_by, frame_steps}
use Prelude.{FrameView, ghost_by, GhostState, Handle, is_prepared, Kind, leave, leave_as, lock}
use Prelude.{made_in, model_state, owned, Owner, PendingCall, Place, read_atomic_step, remains}
use Prelude.{remains_as, Rest, share, share_as, shelf_step, ShelfAct, Shelve, silent, Site, Step}
use Prelude.{step_ends, step_makes, stepped, tell, tell_expired, Unshelve, Weak}
use Rattle.control_word.specs.declared.model.event.Event.TheVariants as event
use Rattle.step_table.specs.declared.cell_steps.cell_step.CellStep.TheVariants as cell_step
use Rattle.step_table.specs.declared.memory.ghost_history.AtomicStep.TheVariants as atomic_step
use Rattle.step_table.specs.AtomicSteps.{is_last as is_last_of}
use Rattle.step_table.specs.GhostStates.{owner_in}
use Rattle.step_core.proofs.telling.Order.{ended_more}
use Rattle.step_core.proofs.telling.Walking.{ends_at}

-- the step is counted, where h is what the thread had begun: an object is made by a task that has the steps of its end
pub record IsCounted (v : GhostState) (d : ℕ) (h : PendingCall) (w : FrameView) (x : Option Step) : Type 0 where
  pub made : made_in (ghost_by v d x).history ≡ made_in v.history + step_makes h (stepped v x)
  pub ended : ended_in (ghost_by v d x).history ≡ ended_in v.history + step_ends (stepped v x)
  pub few : 28 * step_makes h (stepped v x) + frame_steps (frame_by w x) ≤ frame_steps w + 13 * step_ends (stepped v x)

pub plus_none : (n : ℕ) → n ≡ n + 0
plus_none n = omega arith

some_if : {A : Type 0} (b : Bool) (a : A) → is_some (cond b (Some a) None) ≡ b
some_if true a = refl
some_if false a = refl

-- a step that is no event
pub quiet : (v : GhostState) (d k : ℕ) (h h' : PendingCall) (w x : FrameView) (a : Option Answer) → frame_steps x ≤ frame_steps w
    → IsCounted v d h w (Some (record { atomic_step = None; pending_call = h'; frame_view = x; said = record { statement = k; answer = a; ended = None } }))
quiet v d k h h' w x a le = record { made = plus_none _; ended = plus_none _; few = omega (arith, le) }

pub shared : (v : GhostState) (d k : ℕ) (w x : FrameView) (a : Option Answer) → frame_steps x ≤ frame_steps w → (y : Option Handle)
    → IsCounted v d Rest w (Some (record {
      atomic_step = option_map share y;
      pending_call = Rest;
      frame_view = x;
      said = record { statement = k; answer = a; ended = None };
    }))
shared v d k w x a le None = record { made = plus_none _; ended = plus_none _; few = omega (arith, le) }
shared v d k w x a le (Some y) = go y.kind
  where
    go : (q : Kind) → IsCounted v d Rest w (Some (record {
      atomic_step = Some (share_as q y);
      pending_call = Rest;
      frame_view = x;
      said = record { statement = k; answer = a; ended = None };
    }))
    go Owner = record { made = plus_none _; ended = plus_none _; few = omega (arith, le) }
    go Weak = record { made = plus_none _; ended = plus_none _; few = omega (arith, le) }

pub downgraded : (v : GhostState) (d k : ℕ) (w x : FrameView) → frame_steps x ≤ frame_steps w → (y : Option Handle)
    → IsCounted v d Rest w (Some (record { atomic_step = option_map downgrade y; pending_call = Rest; frame_view = x; said = silent k }))
downgraded v d k w x le None = record { made = plus_none _; ended = plus_none _; few = omega (arith, le) }
downgraded v d k w x le (Some y) = record { made = plus_none _; ended = plus_none _; few = omega (arith, le) }

pub aliased_by : (v : GhostState) (d k : ℕ) (w x : FrameView) (p : Option Place) → frame_steps x ≤ frame_steps w → (y : Option Handle)
    → IsCounted v d Rest w (Some (record { atomic_step = option_map (alias p) y; pending_call = Rest; frame_view = x; said = silent k }))
aliased_by v d k w x p le None = record { made = plus_none _; ended = plus_none _; few = omega (arith, le) }
aliased_by v d k w x p le (Some y) = record { made = plus_none _; ended = plus_none _; few = omega (arith, le) }

pub expired : (v : GhostState) (d k : ℕ) (w x : FrameView) (a : Option Answer) → frame_steps x ≤ frame_steps w → (y : Option Handle)
    → IsCounted v d Rest w (Some (record {
      atomic_step = option_map (tell_expired (model_state v)) y;
      pending_call = Rest;
      frame_view = x;
      said = record { statement = k; answer = a; ended = None };
    }))
expired v d k w x a le None = record { made = plus_none _; ended = plus_none _; few = omega (arith, le) }
expired v d k w x a le (Some y) = record { made = plus_none _; ended = plus_none _; few = omega (arith, le) }

pub read_one : (v : GhostState) (d k : ℕ) (w x : FrameView) (a : Option Answer) → frame_steps x ≤ frame_steps w → (y : Option Handle)
    → IsCounted v d Rest w (Some (record {
      atomic_step = option_map (read_atomic_step (model_state v)) y;
      pending_call = Rest;
      frame_view = x;
      said = record { statement = k; answer = a; ended = None };
    }))
read_one v d k w x a le None = record { made = plus_none _; ended = plus_none _; few = omega (arith, le) }
read_one v d k w x a le (Some y) = record { made = plus_none _; ended = plus_none _; few = omega (arith, le) }

-- a cell is asked, or not
pub held_one : (v : GhostState) (d k : ℕ) (w x : FrameView) (a : Option Answer) → frame_steps x ≤ frame_steps w → (b : Bool) (c : Site) (y : CellWord)
    (so : Bool)
    → IsCounted v d Rest w (Some (record {
      atomic_step = cond b (Some (atomic_step.OnCell (cell_step.Holds c y so))) None;
      pending_call = Rest;
      frame_view = x;
      said = record { statement = k; answer = a; ended = None };
    }))
held_one v d k w x a le true c y so = record { made = plus_none _; ended = plus_none _; few = omega (arith, le) }
held_one v d k w x a le false c y so = record { made = plus_none _; ended = plus_none _; few = omega (arith, le) }

-- a lock that is done
pub locked_by : (v : GhostState) (d k : ℕ) (h : PendingCall) (w x : FrameView) (a : Option Answer) (y : Handle) → is_prepared h ≡ false → frame_steps x ≤
    frame_steps w
    → IsCounted v d h w (Some (record {
      atomic_step = Some (lock (model_state v) y);
      pending_call = Rest;
      frame_view = x;
      said = record { statement = k; answer = a; ended = None };
    }))
locked_by v d k h w x a y e le =
    let z : ◌≡◌ {A = ℕ} (cond (is_prepared h) 1 0) 0 = ap (λ (b : Bool). cond b 1 0) e in
    record { made = omega (arith, z); ended = plus_none _; few = omega (arith, le, z) }

pub told : (v : GhostState) (d k : ℕ) (w x : FrameView) (a : Option Answer) → frame_steps x ≤ frame_steps w → (y : Option Handle)
    → IsCounted v d Rest w (Some (record {
      atomic_step = option_map (tell v) y;
      pending_call = Rest;
      frame_view = x;
      said = record { statement = k; answer = a; ended = None };
    }))
told v d k w x a le None = record { made = plus_none _; ended = plus_none _; few = omega (arith, le) }
told v d k w x a le (Some y) = record { made = plus_none _; ended = plus_none _; few = omega (arith, le) }

left_by : (v : GhostState) (d k : ℕ) (w x : FrameView) (y : Handle) (q : Kind) (b : Bool)
    → frame_steps x ≤ frame_steps w + 13 * cond (is_some (cond b (remains_as q ((model_state v).object (owned (model_state v) y))) None)) 1 0
    → IsCounted v d Rest w (Some (record {
      atomic_step = Some (leave_as q y b);
      pending_call = Rest;
      frame_view = x;
      said = record { statement = k; answer = None; ended = cond b (remains_as q ((model_state v).object (owned (model_state v) y))) None };
    }))
left_by v d k w x y Owner b le =
    let s = model_state v in
    let r = remains (s.object (owned s y)) in
    let t = some_if b r in
    let u : ◌≡◌ {A = ℕ} (cond (is_some (cond b (Some r) None)) 1 0) (cond b 1 0) = ap (λ (z : Bool). cond z 1 0) t in
    record {
      made = plus_none _;
      ended =
          ended_more (entry d (event.Leave (owner_in v y.block y.place) b)) v.history b refl
          ∙ ap (λ (z : ℕ). ended_in v.history + z) (sym u);
      few = omega (arith, le);
    }
left_by v d k w x y Weak true le = record { made = plus_none _; ended = plus_none _; few = omega (arith, le) }
left_by v d k w x y Weak false le = record { made = plus_none _; ended = plus_none _; few = omega (arith, le) }

pub left : (v : GhostState) (d k : ℕ) (w x : FrameView) (y : Option Handle) → frame_steps x + 1 ≤ frame_steps w + 13 * ends_at (model_state v) y
    → IsCounted v d Rest w (Some (record {
      atomic_step = option_map (leave (model_state v)) y;
      pending_call = Rest;
      frame_view = x;
      said = record { statement = k; answer = None; ended = ended_by (model_state v) y };
    }))
left v d k w x None le = record { made = plus_none _; ended = plus_none _; few = omega (arith, le) }
left v d k w x (Some y) le = left_by v d k w x y y.kind (is_last_of (model_state v) y) (omega (arith, le))

-- a block goes to the shelf or comes from it, if there is one
pub moved_one : (v : GhostState) (d k : ℕ) (w x : FrameView) (y : ShelfAct) → frame_steps x ≤ frame_steps w → (o : Option ℕ)
    → IsCounted v d Rest w (Some (record {
      atomic_step = shelf_step y o;
      pending_call = Rest;
      frame_view = x;
      said = record { statement = k; answer = None; ended = None };
    }))
moved_one v d k w x Shelve le None = record { made = plus_none _; ended = plus_none _; few = omega (arith, le) }
moved_one v d k w x Shelve le (Some b) = record { made = plus_none _; ended = plus_none _; few = omega (arith, le) }
moved_one v d k w x (Unshelve c) le None = record { made = plus_none _; ended = plus_none _; few = omega (arith, le) }
moved_one v d k w x (Unshelve c) le (Some b) = record { made = plus_none _; ended = plus_none _; few = omega (arith, le) }
