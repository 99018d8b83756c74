-- An act that is under way, step by step.
use Rattle.std.proofs.Common.{◌≡◌, ℕ, Bool, true, false, cond, ◌≢◌, List, [], ◌∷◌, length, set}
use Rattle.std.proofs.Common.{Some, sym, refl, ap, ◌∙◌, subst, ⊎_elim, set-set}
use Rattle.step_core.proofs.Prelude
use Prelude.{abstraction, AbstractState, Act, Advances, Brought, Clearing, false≢true, frame_of}
use Prelude.{FrameView, ghost_after, Giving, GoesTo, HasBegun, is_event, IsLegal, Locking, Making}
use Prelude.{Matched, opening, pending_call_of, PendingCall, Plays, Quiet, Refill, Rest, Returning}
use Prelude.{Said, Saw, step_of, Stepped, stepped, Steps, TableInvariant, Task, turned_by, Waited}
use Prelude.{world_state_by, WorldState}
use Rattle.step_threads.specs.declared.said.Stepped.TheVariants.{Event}
use Rattle.step_threads.specs.NextSteps.{atomic_step_is_event as is_done}
use Rattle.step_core.proofs.turning.Chains.{more_steps, one_step}
use Rattle.step_core.proofs.turning.Ending.{pending_call_after, pending_calls_after, same_frames}
use Rattle.step_core.proofs.turning.Ending.{frame_after}
use Rattle.step_core.proofs.turning.Resting.{abstraction_stays}
use Rattle.step_core.proofs.turning.Saying.{plays_as}
use Rattle.step_core.proofs.turning.Telling.{awake, tells_unless}
use Rattle.step_core.proofs.turning.Trials.{Done, Tried, is_on}
use Rattle.step_core.proofs.turning.Turns.{plays_on}
use Rattle.step_core.proofs.turning.Ways.{LooksNext, Trial, Tries, trial_of}

-- how far it has come
pub record IsTrying (d : ℕ) (u u' : WorldState) : Type 0 where
  pub tries : Tries (pending_call_of u' d) (frame_of (abstraction u') d)
  pub pending_calls : u'.pending_calls ≡ set u.pending_calls d (pending_call_of u' d)
  pub actors : length u'.frame_views ≡ length u.frame_views
  pub goes : GoesTo d u u'
  pub abstraction : abstraction u' ≡ abstraction u

tries_by : (h : PendingCall) (w : FrameView) (t : Task) (ts : List Task) → w.todo ≡ t ∷ ts → w.endings ≡ []
    → is_on w.slots t.act h ≡ true → Tries h w
tries_by Rest w t ts todo none is = (subst (LooksNext w.slots) (sym todo) is, none)
tries_by (Making b i f) w t ts todo none is = tt
tries_by (Locking word) w t ts todo none is = tt
tries_by (Giving i kind x) w t ts todo none is = tt
tries_by Brought w t ts todo none is = tt
tries_by (Saw x) w t ts todo none is = tt
tries_by (Matched x) w t ts todo none is = tt
tries_by (Refill stage c x k) w t ts todo none is = absurd (false≢true is)
tries_by (Returning kind b f k) w t ts todo none is = (subst (LooksNext w.slots) (sym todo) is, none)
tries_by Clearing w t ts todo none is = absurd (false≢true is)

event_on : (b : Bool) (x : Said) → is_event (cond b (Event x) (Quiet x)) ≡ b
event_on true x = refl
event_on false x = refl

-- whether the step is an event tells which it is
event_of_step : (d : ℕ) (u : WorldState) (r : Stepped) (t : Trial d u) → r ≡ stepped u.ghost_state (step_of d u)
    → is_event r ≡ is_done u.ghost_state t.step.atomic_step
event_of_step d u r t answer =
    ap is_event (answer ∙ ap (stepped u.ghost_state) t.is) ∙ event_on (is_done u.ghost_state t.step.atomic_step) t.step.said

done_of : (d : ℕ) (u : WorldState) (t : Trial d u) → is_done u.ghost_state t.step.atomic_step ≡ true
    → Done d u t.task.statement t.tasks t.task.act t.step
done_of d u t is =
    ⊎_elim (λ (q : Done d u t.task.statement t.tasks t.task.act t.step). q)
    (λ (q : Tried d u.ghost_state (frame_of (abstraction u) d) t.task.act t.step). absurd
    (false≢true (sym q.quiet ∙ is))) t.out

tried_of : (d : ℕ) (u : WorldState) (t : Trial d u) → is_done u.ghost_state t.step.atomic_step ≡ false
    → Tried d u.ghost_state (frame_of (abstraction u) d) t.task.act t.step
tried_of d u t is =
    ⊎_elim (λ (q : Done d u t.task.statement t.tasks t.task.act t.step). absurd (false≢true (sym is ∙ q.event)))
    (λ (q : Tried d u.ghost_state (frame_of (abstraction u) d) t.task.act t.step). q) t.out

now : (d : ℕ) (u v w : WorldState) (r : Stepped) → IsTrying d u v → HasBegun d v → Steps d v r w → r ≢ Waited → Trial d v
now d u v w r trying begun steps never =
    trial_of d v begun (pending_call_of v d) refl trying.tries (awake d v w r steps never).0

-- the event is the act
pub trying_done : (d : ℕ) (u v w : WorldState) (r : Stepped) → IsTrying d u v → HasBegun d v → Steps d v r w → r ≢ Waited
    → is_event r ≡ true → TableInvariant w.ghost_state
    → Plays d u (turned_by r) w
trying_done d u v w r trying begun steps never event kept =
    let t = now d u v w r trying begun steps never in
    let a = (awake d v w r steps never).1 in
    let q = done_of d v t (sym (event_of_step d v r t a) ∙ event) in
    plays_on d u v w (turned_by r) trying.goes trying.abstraction trying.pending_calls
    (subst (λ (x : WorldState). Plays d v (turned_by r) x) (sym steps.1)
    (plays_as d v t.task t.tasks t.step r t.none t.todo t.is a q.so
    (tells_unless d v (λ (b : Act). t.task.act ≡ b) t.task.act t.counts refl)
    q.over begun.within begun.frame_views
    (subst (λ (x : WorldState). IsLegal (opening x.ghost_state.extent) x.ghost_state.history) steps.1 kept.stands.legal)))

-- a step on the way
record Onward (d : ℕ) (v w : WorldState) : Type 0 where
  tries : Tries (pending_call_of w d) (frame_of (abstraction v) d)
  pending_calls : w.pending_calls ≡ set v.pending_calls d (pending_call_of w d)
  abstraction : abstraction w ≡ abstraction v

onward : (d : ℕ) (v : WorldState) (t : Trial d v) → is_done v.ghost_state t.step.atomic_step ≡ false → HasBegun d v
    → Onward d v (world_state_by d v (Some t.step))
onward d v t is begun =
    let w = frame_of (abstraction v) d in
    let x = t.step in
    let q = tried_of d v t is in
    let s = world_state_by d v (Some x) in
    let pending_call : pending_call_of s d ≡ x.pending_call = pending_call_after d v (Some x) begun.within in
    let frame_view : frame_of (abstraction s) d ≡ w = frame_after d v (Some x) begun.frame_views ∙ q.frame_view in
    record {
      abstraction =
          abstraction_stays v (ghost_after v.ghost_state d x.atomic_step) (set v.frame_views d x.frame_view) q.extent q.history
          (ap (set v.frame_views d) q.frame_view ∙ same_frames d v);
      tries = subst (λ (h : PendingCall). Tries h w) (sym pending_call) (tries_by x.pending_call w t.task t.tasks t.todo t.none q.pending_call);
      pending_calls = pending_calls_after d v (Some x) begun.within;
    }

onward_now : (d : ℕ) (u v w : WorldState) (r : Stepped) → IsTrying d u v → HasBegun d v → Steps d v r w → r ≢ Waited
    → is_event r ≡ false → Onward d v w
onward_now d u v w r trying begun steps never event =
    let t = now d u v w r trying begun steps never in
    let o = onward d v t (sym (event_of_step d v r t (awake d v w r steps never).1) ∙ event) begun in
    subst (λ (x : WorldState). Onward d v x) (sym (steps.1 ∙ ap (world_state_by d v) t.is)) o

pub trying_on : (d : ℕ) (u v w : WorldState) (r : Stepped) → IsTrying d u v → HasBegun d v → Steps d v r w → r ≢ Waited
    → is_event r ≡ false
    → length w.frame_views ≡ length v.frame_views → Advances d v r w → IsTrying d u w
trying_on d u v w r trying begun steps never event actors advances =
    let o = onward_now d u v w r trying begun steps never event in
    let same : frame_of (abstraction w) d ≡ frame_of (abstraction v) d = ap (λ (c : AbstractState). frame_of c d) o.abstraction in
    record {
      abstraction = o.abstraction ∙ trying.abstraction;
      tries = subst (λ (k : FrameView). Tries (pending_call_of w d) k) (sym same) o.tries;
      pending_calls =
          o.pending_calls ∙ ap (λ (l : List PendingCall). set l d (pending_call_of w d)) trying.pending_calls ∙ set-set u.pending_calls d (pending_call_of v d)
          (pending_call_of w d);
      actors = actors ∙ trying.actors;
      goes = more_steps d u v w trying.goes (one_step d v w r advances);
    }
