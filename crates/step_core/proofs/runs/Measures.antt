-- Each step that isn't `Done` takes one from the steps that are left.
use Rattle.std.proofs.Common.{◌≡◌, ℕ, ◌+◌, ◌*◌, ◌<◌, ◌≤◌, Bool, true, false, cond, ◌≢◌, List, []}
use Rattle.std.proofs.Common.{length, slice_set, Some, None, Option, sym, refl, ap, ◌∙◌, subst}
use Rattle.std.proofs.Common.{arith, length-set, get_or-set_same}
use Rattle.step_core.proofs.Prelude
use Prelude.{abstraction, alone, atomic_step_is_event, cond_both, Done, frame_of, frame_steps}
use Prelude.{FrameView, ghost_after, ghost_by, GhostState, Handle, HasBegun, is_full, IsOver}
use Prelude.{IsTidy, LeavesName, living, most_steps, nowhere, opening, other, pending_call_of}
use Prelude.{PendingCall, Quiet, Rest, set-get_or, slot_pointer, spare, Step, step_ends}
use Prelude.{step_makes, step_of, Stepped, stepped, Steps, sum_by-set, TableInvariant, Waited}
use Prelude.{waits, world_state_by, WorldState}
use Rattle.std.proofs.lemmas.List.Sums.{get_or-le-sum_by}
use Rattle.step_threads.specs.declared.said.Stepped.TheVariants.{Event}
use Rattle.step_core.specs.Worlds.{answer_at}
use Rattle.step_core.proofs.runs.Alone.{IsLess}
use Rattle.step_core.proofs.runs.Lessening.{less}
use Rattle.step_core.proofs.telling.Counting.{counted}
use Rattle.step_core.proofs.telling.Order.{ended_few}

-- what thread d has to spare
abbrev pub spare_of : ℕ → WorldState → ℕ
spare_of d u = spare (pending_call_of u d)

abbrev pub alone_of : ℕ → WorldState → ℕ
alone_of d u = alone u.ghost_state (frame_of (abstraction u) d) (pending_call_of u d)

-- the steps that thread d has left, if it runs alone
abbrev pub left_of : ℕ → WorldState → ℕ
left_of d u = frame_steps (frame_of (abstraction u) d) + alone_of d u + 13 * living u

-- thread d has fewer steps left, and so have all together; they never have more
pub record Falls (d : ℕ) (u u' : WorldState) : Type 0 where
  pub own : left_of d u' < left_of d u
  pub all : most_steps u' + alone_of d u' + spare_of d u < most_steps u + alone_of d u + spare_of d u'
  pub most : most_steps u' ≤ most_steps u
  pub within : spare_of d u' ≤ most_steps u'

-- what lives after a step, by what it made and of what the last owner left
living_by : (d : ℕ) (u : WorldState) → HasBegun d u → TableInvariant (ghost_by u.ghost_state d (step_of d u))
    → living (world_state_by d u (step_of d u)) + step_ends (stepped u.ghost_state (step_of d u)) ≤ living u + step_makes (pending_call_of u d)
    (stepped u.ghost_state (step_of d u))
living_by d u begun kept =
    let x = step_of d u in
    let c = counted u.ghost_state d (pending_call_of u d) (frame_of (abstraction u) d) begun.pending_call begun.tried begun.alone in
    let law = ended_few (opening (ghost_by u.ghost_state d x).extent) (ghost_by u.ghost_state d x).history kept.stands.legal in
    let m = c.made in
    let e = c.ended in
    omega (arith, law, m, e)

falls : (d : ℕ) (u : WorldState) (x : Step) → d < length u.frame_views → d < length u.pending_calls
    → living (world_state_by d u (Some x)) + step_ends (stepped u.ghost_state (Some x)) ≤ living u + step_makes (pending_call_of u d)
    (stepped u.ghost_state (Some x))
    → IsLess u.ghost_state d (pending_call_of u d) (frame_of (abstraction u) d) (Some x) → Falls d u (world_state_by d u (Some x))
falls d u x lt within live fewer =
    let v = ghost_after u.ghost_state d x.atomic_step in
    let s = sum_by-set frame_steps u.frame_views d x.frame_view nowhere lt in
    let t = sum_by-set spare u.pending_calls d x.pending_call Rest within in
    let walked = get_or-set_same u.frame_views d x.frame_view nowhere lt in
    let pending_call = get_or-set_same u.pending_calls d x.pending_call Rest within in
    let p = ap frame_steps walked in
    let q = ap spare pending_call in
    let a = ap (λ (w : FrameView). alone v w (pending_call_of (world_state_by d u (Some x)) d)) walked ∙ ap (alone v x.frame_view) pending_call in
    let own = fewer.own in
    let most = fewer.most in
    let size = length-set u.pending_calls d x.pending_call in
    let one = get_or-le-sum_by spare (slice_set u.pending_calls d x.pending_call) d Rest (omega (arith, within, size)) in
    record {
      own = omega (arith, own, p, a, live);
      all = omega (arith, own, s, t, p, q, a, live);
      most = omega (arith, most, s, t, live);
      within = omega (arith, one);
    }

never_done : (v : GhostState) (x : Step) → stepped v (Some x) ≢ Done
never_done v x =
    cond_both (atomic_step_is_event v x.atomic_step) (Event x.said) (Quiet x.said) (λ (r : Stepped). r ≢ Done) (λ _ e. event_done e) (λ _ e. quiet_done e)
  where
    event_done : Event x.said ≡ Done → ⊥
    event_done e = cc

    quiet_done : Quiet x.said ≡ Done → ⊥
    quiet_done e = cc

abbrev world_state_of : GhostState → List FrameView → List PendingCall → WorldState
world_state_of v ws hs = record { ghost_state = v; frame_views = ws; pending_calls = hs }

same_world_state : (u : WorldState) (ws : List FrameView) (hs : List PendingCall) → ws ≡ u.frame_views → hs ≡ u.pending_calls → world_state_of u.ghost_state ws
    hs ≡ u
same_world_state u ws hs e f = ap (λ (w : List FrameView). world_state_of u.ghost_state w hs) e ∙ ap (world_state_of u.ghost_state u.frame_views) f

-- a step that didn't wait
record Calm (d : ℕ) (u : WorldState) (r : Stepped) : Type 0 where
  calm : waits u.ghost_state (pending_call_of u d) (frame_of (abstraction u) d) ≡ false
  answer : r ≡ stepped u.ghost_state (step_of d u)

calm_by : (d : ℕ) (u : WorldState) (r : Stepped) → r ≡ answer_at d u → r ≢ Waited → Calm d u r
calm_by d u r e never = go (waits u.ghost_state (pending_call_of u d) (frame_of (abstraction u) d)) refl e
  where
    go : (b : Bool) → waits u.ghost_state (pending_call_of u d) (frame_of (abstraction u) d) ≡ b → r ≡ cond b Waited (stepped u.ghost_state (step_of d u)) →
        Calm d u r
    go true is e = absurd (never e)
    go false is e = record { calm = is; answer = e }

left : (d : ℕ) (u : WorldState) → HasBegun d u → waits u.ghost_state (pending_call_of u d) (frame_of (abstraction u) d) ≡ false
    → IsLess u.ghost_state d (pending_call_of u d) (frame_of (abstraction u) d) (step_of d u)
left d u begun calm =
    less u.ghost_state d (frame_of (abstraction u) d) begun.kept begun.seat begun.holds (pending_call_of u d) begun.pending_call begun.tried begun.alone
    begun.ends begun.cell
    begun.still begun.out calm

-- what a name holds is left by a task to come, so that all are empty where none is
pub empty_names : (w : FrameView) → IsTidy w → w.todo ≡ [] → (i : ℕ) → i < other w.slots → slot_pointer w.slots i ≡ None
empty_names w tidy none i lt = go (slot_pointer w.slots i) refl
  where
    go : (o : Option Handle) → slot_pointer w.slots i ≡ o → o ≡ None
    go None e = refl
    go (Some x) e = absurd (subst (LeavesName i) none (tidy.names i lt (ap is_full e)))

-- a step at the end changes nothing
pub at_end : (d : ℕ) (u u' : WorldState) → HasBegun d u → Steps d u Done u' → (u' ≡ u) × IsOver d u
at_end d u u' begun steps =
    let c = calm_by d u Done steps.0 done_goes in go (step_of d u) c.answer steps.1 (left d u begun c.calm)
  where
    done_goes : Done ≢ Waited
    done_goes e = cc

    go : (o : Option Step) → Done ≡ stepped u.ghost_state o → u' ≡ world_state_by d u o
        → IsLess u.ghost_state d (pending_call_of u d) (frame_of (abstraction u) d) o → (u' ≡ u) × IsOver d u
    go None r e l = (
      e ∙ same_world_state u _ _ (set-get_or u.frame_views d nowhere) (set-get_or u.pending_calls d Rest),
      record { frame_view = l.0; endings = l.1; pending_call = l.2; names = empty_names (frame_of (abstraction u) d) begun.tidy l.0 },
    )
    go (Some x) r e l = absurd (never_done u.ghost_state x (sym r))

-- any other step is one less
pub before_end : (d : ℕ) (u u' : WorldState) (r : Stepped) → HasBegun d u → TableInvariant u'.ghost_state → d < length u.frame_views → Steps d u r u' → r ≢ Done
    → r ≢ Waited → Falls d u u'
before_end d u u' r begun kept lt steps ne never =
    let c = calm_by d u r steps.0 never in
    go (step_of d u) c.answer steps.1 (living_by d u begun (subst (λ (w : WorldState). TableInvariant w.ghost_state) steps.1 kept)) (left d u begun c.calm)
  where
    go : (o : Option Step) → r ≡ stepped u.ghost_state o → u' ≡ world_state_by d u o
        → living (world_state_by d u o) + step_ends (stepped u.ghost_state o) ≤ living u + step_makes (pending_call_of u d) (stepped u.ghost_state o)
        → IsLess u.ghost_state d (pending_call_of u d) (frame_of (abstraction u) d) o → Falls d u u'
    go None e f live l = absurd (ne e)
    go (Some x) e f live l = subst (λ (w : WorldState). Falls d u w) (sym f) (falls d u x lt begun.within live l)

-- no step is one more
pub never_more : (d : ℕ) (u u' : WorldState) (r : Stepped) → HasBegun d u → TableInvariant u'.ghost_state → d < length u.frame_views → Steps d u r u'
    → r ≢ Waited → most_steps u' ≤ most_steps u
never_more d u u' r begun kept lt steps never =
    let c = calm_by d u r steps.0 never in
    go (step_of d u) steps.1 (living_by d u begun (subst (λ (w : WorldState). TableInvariant w.ghost_state) steps.1 kept)) (left d u begun c.calm)
  where
    go : (o : Option Step) → u' ≡ world_state_by d u o
        → living (world_state_by d u o) + step_ends (stepped u.ghost_state o) ≤ living u + step_makes (pending_call_of u d) (stepped u.ghost_state o)
        → IsLess u.ghost_state d (pending_call_of u d) (frame_of (abstraction u) d) o → most_steps u' ≤ most_steps u
    go None f live l =
        let e : u' ≡ u = f ∙ same_world_state u _ _ (set-get_or u.frame_views d nowhere) (set-get_or u.pending_calls d Rest) in
        let k = ap most_steps e in omega (arith, k)
    go (Some x) f live l = let k = ap most_steps f in let g = (falls d u x lt begun.within live l).most in omega (arith, k, g)
