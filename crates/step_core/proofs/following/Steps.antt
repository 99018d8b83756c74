-- Each step is an act, or on the way of one.
use Rattle.std.proofs.Common.{◌≡◌, ℕ, ◌<◌, Bool, true, false, ◌≢◌, List, [], ◌∷◌, length, set}
use Rattle.std.proofs.Common.{Some, Option, option_map, sym, refl, ap, ◌∙◌, subst, inl, ⊎_elim}
use Rattle.std.proofs.Common.{get_or-set_same}
use Rattle.step_core.proofs.Prelude
use Prelude.{abstraction, AbstractState, Ahead, ahead, ahead_of, AnAct, at_rest, Brought, Clearing}
use Prelude.{cond-false, cond-true, DoesAhead, emptied, empties, Ending, ends_on, EndsAll, first}
use Prelude.{frame_of, FundsAreHeld, ghost_after, Giving, hand, HasBegun, is_acting, is_full}
use Prelude.{IsClearingMember, IsTried, Leave, Locking, Making, Matched, model_state, no_worth}
use Prelude.{nowhere, opening, pending_call_of, PendingCall, Performs, Refill, RefillFits}
use Prelude.{refills_on, reply_in, Rest, Returning, returns, Saw, slot_pointer, Step, step_at}
use Prelude.{step_of, Stepped, stepped, Steps, Task, Waited, waits, went, world_state_by}
use Prelude.{WorldState}
use Rattle.step_threads.specs.Steps.{silent as silently}
use Rattle.step_core.proofs.following.Ending.{trace_label_of, ends_next, made, passed, takes_out}
use Rattle.step_core.proofs.following.Replies.{goes_told, replied}
use Rattle.step_core.proofs.following.Silence.{first_said, refills_said}
use Rattle.step_core.proofs.turning.Ending.{same_frames, abstraction_as, frame_after}
use Rattle.step_core.proofs.turning.Firsts.{acts_so, first_same}
use Rattle.step_core.proofs.turning.Looking.{awake_on, can_look}
use Rattle.step_core.proofs.turning.Playing.{begun_step, carried_step}
use Rattle.step_core.proofs.turning.Refilling.{Pays, refills_so, returns_so}
use Rattle.step_core.proofs.turning.Resting.{first_ends, abstraction_stays}
use Rattle.step_core.proofs.turning.Saying.{Acts, does_so}
use Rattle.step_core.proofs.turning.Telling.{awake, tell_of}
use Rattle.step_core.proofs.turning.Trials.{Done, Tried}
use Rattle.step_core.proofs.turning.Ways.{Trial, Tries, trial_of}

module _ (d : ℕ) (u : WorldState) where
  -- what this step of the thread, or none at its end, would be
  abbrev Now : Option Step → Type 0
  Now o = Performs d u (stepped u.ghost_state o) (world_state_by d u o)

  -- a step that is the act
  acts_now : (t : Task) (ts : List Task) (x : Step) → ahead (frame_of (abstraction u) d) ≡ AnAct t ts → d < length u.frame_views
      → Acts d u t.statement ts t.act x → Now (Some x)
  acts_now t ts x next lt so =
      let w = frame_of (abstraction u) d in
      let v = u.ghost_state in
      let tell = tell_of v t.act in
      let q = replied tell (opening v.extent) d v.history w t.act in
      let y = trace_label_of d x q.event in
      let here : x.frame_view ≡ went (model_state v) d w t.statement ts t.act =
      sym (frame_after d u (Some x) lt) ∙ ap (λ (c : AbstractState). frame_of c d) so.1
      ∙ get_or-set_same u.frame_views d (went (model_state v) d w t.statement ts t.act) nowhere lt in
      made d u x q.event lt (ap (λ (c : AbstractState). c.history) so.1 ∙ q.history)
      (subst (λ (a : Ahead). DoesAhead no_worth (model_state v) w y x.frame_view a) (sym next)
      (record {
        reply = reply_in tell (model_state v) d w.slots t.act;
        makes = q.makes;
        says = so.0;
        goes = here ∙ goes_told tell (model_state v) d t.statement w ts t.act;
      }))

  -- a step of an act that is under way
  trial_now : Trial d u → d < length u.frame_views → Now (step_of d u)
  trial_now t lt =
      let w = frame_of (abstraction u) d in
      let next : ahead w ≡ AnAct t.task t.tasks =
      ap (λ (es : List Ending). ahead_of w.slots es w.todo) t.none ∙ ap (ahead_of w.slots []) t.todo in
      subst Now (sym t.is)
      (⊎_elim (λ (q : Done d u t.task.statement t.tasks t.task.act t.step). acts_now t.task t.tasks t.step next lt q.so)
      (λ (q : Tried d u.ghost_state w t.task.act t.step). passed d u t.step q.said
      (abstraction_stays u (ghost_after u.ghost_state d t.step.atomic_step) (set u.frame_views d t.step.frame_view) q.extent q.history
      (ap (set u.frame_views d) q.frame_view ∙ same_frames d u))) t.out)

  -- funds are turned, put back or given back
  pays_now : (x : Step) → step_of d u ≡ Some x → Pays d u.ghost_state (frame_of (abstraction u) d) x
      → x.said ≡ silently x.said.statement → Now (step_of d u)
  pays_now x is q said =
      subst Now (sym is)
      (passed d u x said
      (abstraction_stays u (ghost_after u.ghost_state d x.atomic_step) (set u.frame_views d x.frame_view) q.extent q.history
      (ap (set u.frame_views d) q.frame_view ∙ same_frames d u)))

  module _ (begun : HasBegun d u) where
    -- a thread at rest whose next act begins
    first_now : (t : Task) (ts : List Task) → pending_call_of u d ≡ Rest → (frame_of (abstraction u) d).endings ≡ [] → (frame_of (abstraction u) d).todo ≡ t
        ∷ ts
        → waits u.ghost_state (pending_call_of u d) (frame_of (abstraction u) d) ≡ false → Now (step_of d u)
    first_now t ts rest none todo wakes =
        let w = frame_of (abstraction u) d in
        let x = first u.ghost_state d w t.statement ts t.act in
        let next : ahead w ≡ AnAct t ts =
        ap (λ (es : List Ending). ahead_of w.slots es w.todo) none ∙ ap (ahead_of w.slots []) todo in
        subst Now (sym (begun_step d u (t ∷ ts) rest none todo)) (go (is_acting x.pending_call) refl next)
      where
        go : (b : Bool) → is_acting (first u.ghost_state d (frame_of (abstraction u) d) t.statement ts t.act).pending_call ≡ b
            → ahead (frame_of (abstraction u) d) ≡ AnAct t ts → Now (Some (first u.ghost_state d (frame_of (abstraction u) d) t.statement ts t.act))
        go true is next =
            let x = first u.ghost_state d (frame_of (abstraction u) d) t.statement ts t.act in
            let silent = first_said u.ghost_state d (frame_of (abstraction u) d) t.statement ts t.act is in
            passed d u x (silent ∙ ap (λ k. silently k) (sym (ap (λ s. s.statement) silent)))
            (first_same d u t.statement ts t.act is)
        go false is next =
            acts_now t ts (first u.ghost_state d (frame_of (abstraction u) d) t.statement ts t.act) next begun.frame_views
            (acts_so d u t.statement ts t.act (can_look d u t ts todo begun) (awake_on d u t ts rest none todo wakes) is)

    -- what came out of a member leaves
    carried_now : (e : Ending) (es : List Ending) → pending_call_of u d ≡ Rest → (frame_of (abstraction u) d).endings ≡ e ∷ es
        → let w = frame_of (abstraction u) d in is_full (slot_pointer w.slots (hand w.slots)) ≡ true → Now (step_of d u)
    carried_now e es rest is full =
        let w = frame_of (abstraction u) d in
        let t : Task = record { statement = e.statement; act = Leave (hand w.slots) } in
        let next : ahead w ≡ AnAct t w.todo =
        ap (λ (l : List Ending). ahead_of w.slots l w.todo) is ∙ cond-true (is_full (slot_pointer w.slots (hand w.slots))) _ _ full in
        subst Now (sym (carried_step d u e es rest is full))
        (acts_now t w.todo (first u.ghost_state d w t.statement w.todo t.act) next begun.frame_views (refl, does_so d u.ghost_state _ _))

    ending_now : (e : Ending) (es : List Ending) → pending_call_of u d ≡ Rest → (frame_of (abstraction u) d).endings ≡ e ∷ es
        → let w = frame_of (abstraction u) d in is_full (slot_pointer w.slots (hand w.slots)) ≡ false → Now (step_of d u)
    ending_now e es rest is free =
        let w = frame_of (abstraction u) d in
        let v = u.ghost_state in
        let s : step_of d u ≡ Some (ends_on v w e es) = ap (λ (h : PendingCall). step_at v d h w) rest
        ∙ ap (λ (l : List Ending). at_rest v d w l) is
        ∙ ap (λ (k : Step). Some k) (cond-false (is_full (slot_pointer w.slots (hand w.slots))) _ _ free) in
        let ends = first_ends d v e es (subst (λ (l : List Ending). EndsAll d l v) is begun.ends) in
        subst Now (sym s) (ends_next d u e es begun.frame_views is free begun.kept begun.seat ends)

    rest_now : (es : List Ending) (ts : List Task) → pending_call_of u d ≡ Rest → (frame_of (abstraction u) d).endings ≡ es → (frame_of (abstraction u) d).todo
        ≡ ts
        → waits u.ghost_state (pending_call_of u d) (frame_of (abstraction u) d) ≡ false → Now (step_of d u)
    rest_now [] [] rest is todo wakes =
        subst Now (sym (begun_step d u [] rest is todo)) (inl (record { silent = refl; stays = abstraction_as u _ _ _ _ refl (same_frames d u) }))
    rest_now [] (t ∷ ts) rest is todo wakes = first_now t ts rest is todo wakes
    rest_now (e ∷ es) ts rest is todo wakes = go (is_full (slot_pointer (frame_of (abstraction u) d).slots (hand (frame_of (abstraction u) d).slots))) refl
      where
        go : (b : Bool) → let w = frame_of (abstraction u) d in is_full (slot_pointer w.slots (hand w.slots)) ≡ b → Now (step_of d u)
        go true full = carried_now e es rest is full
        go false free = ending_now e es rest is free

    clearing_now : (es : List Ending) → pending_call_of u d ≡ Clearing → (frame_of (abstraction u) d).endings ≡ es → IsClearingMember
        (frame_of (abstraction u) d).slots es
        → Now (step_of d u)
    clearing_now [] pending_call is clears = absurd clears
    clearing_now (e ∷ es) pending_call is clears =
        let w = frame_of (abstraction u) d in
        let v = u.ghost_state in
        let s : step_of d u ≡ Some (empties v w e es) = ap (λ (h : PendingCall). step_at v d h w) pending_call ∙ ap (emptied v w) is in
        let ends = first_ends d v e es (subst (λ (l : List Ending). EndsAll d l v) is begun.ends) in
        subst Now (sym s) (takes_out d u e es begun.frame_views is clears.1 begun.kept begun.seat ends clears.0)

    acting_now : (h : PendingCall) → pending_call_of u d ≡ h → Tries h (frame_of (abstraction u) d) → waits u.ghost_state (pending_call_of u d)
        (frame_of (abstraction u) d) ≡ false
        → Now (step_of d u)
    acting_now h e tries wakes = trial_now (trial_of d u begun h e tries wakes) begun.frame_views

    pending_call_now : (h : PendingCall) → pending_call_of u d ≡ h → waits u.ghost_state (pending_call_of u d) (frame_of (abstraction u) d) ≡ false → Now
        (step_of d u)
    pending_call_now Rest e wakes = let w = frame_of (abstraction u) d in rest_now w.endings w.todo e refl refl wakes
    pending_call_now (Making b i f) e wakes = acting_now (Making b i f) e tt wakes
    pending_call_now (Locking word) e wakes = acting_now (Locking word) e tt wakes
    pending_call_now (Giving i kind x) e wakes = acting_now (Giving i kind x) e tt wakes
    pending_call_now Brought e wakes = acting_now Brought e tt wakes
    pending_call_now (Saw x) e wakes = acting_now (Saw x) e tt wakes
    pending_call_now (Matched x) e wakes = acting_now (Matched x) e tt wakes
    pending_call_now (Refill stage c x k) e wakes =
        let w = frame_of (abstraction u) d in
        let v = u.ghost_state in
        let fits : RefillFits d stage c x v = subst (λ (h : PendingCall). FundsAreHeld d v h) e begun.out in
        let y = refills_on v w stage c x k fits.block in
        let said = refills_said v w stage c x k fits.block in
        pays_now y
        (ap (λ (h : PendingCall). step_at v d h w) e ∙ ap (option_map (refills_on v w stage c x k)) fits.owned)
        (refills_so d v w stage c x k fits.block)
        (said ∙ ap (λ n. silently n) (sym (ap (λ s. s.statement) said)))
    pending_call_now (Returning kind b f k) e wakes =
        let w = frame_of (abstraction u) d in
        let v = u.ghost_state in
        pays_now (returns w kind b f k) (ap (λ (h : PendingCall). step_at v d h w) e) (returns_so d v w kind b f k) refl
    pending_call_now Clearing e wakes =
        let w = frame_of (abstraction u) d in
        clearing_now w.endings e refl (subst (λ (h : PendingCall). IsTried h w) e begun.tried)

-- a step of thread d
pub performs : (d : ℕ) (u u' : WorldState) (r : Stepped) → HasBegun d u → Steps d u r u' → r ≢ Waited → Performs d u r u'
performs d u u' r begun steps never =
    let a = awake d u u' r steps never in
    subst (λ (x : WorldState). Performs d u r x) (sym steps.1)
    (subst (λ (q : Stepped). Performs d u q (world_state_by d u (step_of d u))) (sym a.1)
    (pending_call_now d u begun (pending_call_of u d) refl a.0))
