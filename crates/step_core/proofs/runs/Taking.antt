-- What any step does to a world.
use Rattle.std.proofs.Common.{◌≡◌, ℕ, ◌<◌, ◌≤◌, Bool, true, false, cond, ◌≢◌, List, [], ◌∷◌, map}
use Rattle.std.proofs.Common.{length, get_or, is_some, slice_get, Some, None, Option, sym, refl}
use Rattle.std.proofs.Common.{ap, ◌∙◌, subst, inl, inr, ⊎_elim, arith, get_or-set_other}
use Rattle.step_core.proofs.Prelude
use Prelude.{abstraction, Advances, AllFit, AllHold, AllRestIdle, answered, at_rest, AtomicStep}
use Prelude.{begun, Done, Ending, Entry, entry, Event, event_added, event_of, false≢true, frame_by}
use Prelude.{frame_of, frame_view, FrameView, get_or-map, get_or_past, ghost_after, ghost_by}
use Prelude.{GhostState, HasBegun, HoldsBag, is_event, length-map, model_state, Nothing, nowhere}
use Prelude.{pending_call_by, pending_call_of, PendingCall, PendingCallFits, Quiet, Rest, Said}
use Prelude.{slice_get_cases, Step, step_of, Stepped, stepped, Steps, TableInvariant, TakesStep}
use Prelude.{Task, task_at, Thread, thread_frame, thread_pending, used_up, View, Waited, waits_at}
use Prelude.{WorldState}
use Rattle.step_threads.specs.declared.said.Stepped.TheVariants.{Event as Happened}
use Rattle.step_threads.specs.NextSteps.{atomic_step_is_event as is_done}
use Rattle.step_core.proofs.Worlds.{world_state}
use Rattle.step_core.proofs.following.Steps.{performs}
use Rattle.step_core.proofs.runs.Extents.{extent_step}
use Rattle.step_core.proofs.runs.Measures.{at_end}
use Rattle.step_core.proofs.runs.Waiting.{IsTold, told_at}

abbrev History : Type 0
History = List (Entry Nothing)

-- a history has one entry more of desk d, or it is the same
abbrev OneMore : ℕ → History → Bool → History → Type 0
OneMore d h b h' = (b ≡ true → (e : Event Nothing) × (h' ≡ entry d e ∷ h)) × (b ≡ false → h' ≡ h)

same_history : (d : ℕ) (h : History) → OneMore d h false h
same_history d h = (λ t. absurd (false≢true t), λ f. refl)

by_event : (d : ℕ) (h : History) (y : Option (Event Nothing)) → OneMore d h (is_some y) (event_added d y h)
by_event d h None = same_history d h
by_event d h (Some e) = (λ t. (e, refl), λ f. absurd (false≢true (sym f)))

by_atomic_step : (d : ℕ) (v : GhostState) (z : Option AtomicStep) → OneMore d v.history (is_done v z) (ghost_after v d z).history
by_atomic_step d v None = same_history d v.history
by_atomic_step d v (Some x) = by_event d v.history (event_of (model_state v) x)

event_on : (b : Bool) (x : Said) → is_event (cond b (Happened x) (Quiet x)) ≡ b
event_on true x = refl
event_on false x = refl

by_step : (d : ℕ) (v : GhostState) (o : Option Step) → OneMore d v.history (is_event (stepped v o)) (ghost_by v d o).history
by_step d v None = same_history d v.history
by_step d v (Some x) =
    subst (λ (b : Bool). OneMore d v.history b (ghost_after v d x.atomic_step).history)
    (sym (event_on (is_done v x.atomic_step) x.said)) (by_atomic_step d v x.atomic_step)

by_answer : (d : ℕ) (u : WorldState) (r : Stepped) (u' : WorldState) → IsTold d u r u'
    → OneMore d u.ghost_state.history (is_event r) u'.ghost_state.history
by_answer d u r u' (inl still) =
    subst (λ (h : History). OneMore d u.ghost_state.history (is_event r) h) (sym still.1)
    (subst (λ (s : Stepped). OneMore d u.ghost_state.history (is_event s) u.ghost_state.history) (sym still.0)
    (same_history d u.ghost_state.history))
by_answer d u r u' (inr said) =
    subst (λ (h : History). OneMore d u.ghost_state.history (is_event r) h) (sym said.1)
    (subst (λ (s : Stepped). OneMore d u.ghost_state.history (is_event s) (ghost_by u.ghost_state d (step_of d u)).history)
    (sym said.0)
    (by_step d u.ghost_state (step_of d u)))

-- a thread at its end answers so
over_answer : (v : GhostState) (d : ℕ) (h : PendingCall) (w : FrameView) → h ≡ Rest → w.endings ≡ [] → w.todo ≡ []
    → answered v d h w ≡ Done
over_answer v d h w rests none done =
    ap (λ (k : PendingCall). answered v d k w) rests
    ∙ ap (λ (es : List Ending). cond (waits_at v w es w.todo) Waited (stepped v (at_rest v d w es))) none
    ∙ ap (λ (ts : List Task). cond (waits_at v w [] ts) Waited (stepped v (begun v d w ts))) done

-- the slots of threads that have what their desks have
pub all_hold : (v : GhostState) (threads : List Thread) → AllFit v threads → AllHold (world_state v threads)
all_hold v threads all d lt =
    ⊎_elim
    (λ (p : (t : Thread) × (d < length threads) × (slice_get threads d ≡ Some t) × (get_or threads d t ≡ t)).
    let w : get_or (map thread_frame threads) d nowhere ≡ frame_view p.0.frame = get_or-map thread_frame threads d p.0
    nowhere p.1 ∙ ap thread_frame p.3 in
    subst (λ (k : FrameView). HoldsBag d k.slots v) (sym w) (all.each d p.0 p.2).holds)
    (λ (q : (length threads ≤ d) × (slice_get threads d ≡ None)). absurd
    (let le = q.0 in let m = length-map threads thread_frame in omega (arith, le, m, lt)))
    (slice_get_cases threads d).1

-- threads that have begun nothing have no call half done, and beyond the threads nobody has one
pub all_idle : (v : GhostState) (threads : List Thread) → AllFit v threads → length (map thread_frame threads) ≡ v.extent.actors → TableInvariant v
    → AllRestIdle (world_state v threads)
all_idle v threads all many kept d rests =
    ⊎_elim
    (λ (p : (t : Thread) × (d < length threads) × (slice_get threads d ≡ Some t) × (get_or threads d t ≡ t)).
    let t = p.0 in
    let h : get_or (map thread_pending threads) d Rest ≡ t.pending_call = get_or-map thread_pending threads d t Rest p.1 ∙ ap thread_pending p.3 in
    subst (λ (k : PendingCall). PendingCallFits d k t.frame.registers.slots.items (task_at t.frame).act v) (sym h ∙ rests) (all.each d t p.2).pending_call)
    (λ (q : (length threads ≤ d) × (slice_get threads d ≡ None)).
    let le = q.0 in
    ap (λ (w : View Nothing). w.pending)
    (get_or_past v.views d used_up (let s = kept.seats.size in let m = length-map threads thread_frame in omega (arith, s, le, many, m))))
    (slice_get_cases threads d).1

pub advances : (d : ℕ) (u u' : WorldState) (r : Stepped) → HasBegun d u → Steps d u r u' → r ≢ Waited → length u'.frame_views ≡ length u.frame_views
    → TableInvariant u'.ghost_state → AllHold u' → AllRestIdle u'
    → Advances d u r u'
advances d u u' r begun steps never actors kept hands idle =
    let x = step_of d u in
    let one = by_answer d u r u' (told_at d u r u' steps) in
    let t : TakesStep d u r u' = record {
      event = one.0;
      quiet = one.1;
      over = (
        λ e. (at_end d u u' begun (subst (λ (s : Stepped). Steps d u s u') e steps)).1,
        λ over. steps.0 ∙ over_answer u.ghost_state d (pending_call_of u d) (frame_of (abstraction u) d) over.pending_call over.endings over.frame_view,
      );
      stays = λ e. (at_end d u u' begun (subst (λ (s : Stepped). Steps d u s u') e steps)).0;
      frame_views = λ e ne. ap (λ (w : WorldState). frame_of (abstraction w) e) steps.1
          ∙ get_or-set_other u.frame_views d e (frame_by (frame_of (abstraction u) d) x) nowhere ne;
      pending_calls =
          λ e ne. ap (λ (w : WorldState). pending_call_of w e) steps.1 ∙ get_or-set_other u.pending_calls d e (pending_call_by (pending_call_of u d) x)
          Rest ne;
      actors = actors;
      extent = extent_step d u u' r steps;
      hands = hands;
      idle = idle;
    } in
    record { steps = steps; takes = t; performs = performs d u u' r begun steps never; kept = kept }
