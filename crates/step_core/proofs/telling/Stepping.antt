-- What a world keeps, after a step.
use Rattle.std.proofs.Common.{◌≡◌, ℕ, ◌+◌, ◌<◌, length, Some, None, Option, sym, refl, ap, ◌∙◌}
use Rattle.std.proofs.Common.{subst, arith, length-set, get_or-set_other, get_or-set_same}
use Rattle.step_core.proofs.Prelude
use Prelude.{abstraction, AtomicStep, Extent, frame_by, frame_of, frame_steps, FrameView}
use Prelude.{ghost_after, ghost_by, GhostState, HasBegun, nowhere, opening, pending_call_by}
use Prelude.{pending_call_of, Step, step_ends, step_makes, step_of, Stepped, stepped, Steps}
use Prelude.{sum_by-set, TableInvariant, TotalsAreTold, world_state_by, WorldState}
use Rattle.step_core.proofs.watching.Worlds.{watched_step}
use Rattle.step_core.proofs.telling.Waiting.{answered_adds}
use Rattle.step_core.proofs.telling.Counting.{counted}
use Rattle.step_core.proofs.telling.Order.{ended_few}
use Rattle.step_core.proofs.telling.Ending.{ends_right}
use Rattle.step_core.proofs.telling.Names.{tidy_after}

same_extent : (v : GhostState) (d : ℕ) (x : Option Step) → (ghost_by v d x).extent ≡ v.extent
same_extent v d None = refl
same_extent v d (Some x) = go x.atomic_step
  where
    go : (y : Option AtomicStep) → (ghost_after v d y).extent ≡ v.extent
    go None = refl
    go (Some y) = refl

told_step : (d : ℕ) (u : WorldState) (m e : ℕ) → TableInvariant u.ghost_state → TableInvariant (ghost_by u.ghost_state d (step_of d u)) → HasBegun d u
    → d < length u.frame_views → TotalsAreTold u m e
    → TotalsAreTold (world_state_by d u (step_of d u)) (m + step_makes (pending_call_of u d) (stepped u.ghost_state (step_of d u)))
    (e + step_ends (stepped u.ghost_state (step_of d u)))
told_step d u m e kept after begun lt told =
    let x = step_of d u in
    let w = frame_of (abstraction u) d in
    let h = pending_call_of u d in
    let c = counted u.ghost_state d h w begun.pending_call begun.tried begun.alone in
    let small = told.few in
    let law = ended_few (opening (ghost_by u.ghost_state d x).extent) (ghost_by u.ghost_state d x).history after.stands.legal in
    let l = length-set u.frame_views d (frame_by w x) in
    let k = length-set u.pending_calls d (pending_call_by h x) in
    let s = sum_by-set frame_steps u.frame_views d (frame_by w x) nowhere lt in
    record {
      threads = l ∙ told.threads ∙ ap (λ (z : Extent). z.actors) (sym (same_extent u.ghost_state d x));
      pending_calls = k ∙ told.pending_calls ∙ sym l;
      made = (let a = told.made in let b = c.made in omega (arith, a, b));
      ended = (let a = told.ended in let b = c.ended in omega (arith, a, b));
      order = (let a = told.made in let b = c.made in let p = told.ended in let q = c.ended in omega (arith, law, a, b, p, q));
      few = (let b = c.few in omega (arith, s, b, small));
      endings = (ends_right u.ghost_state d h w (λ i. (frame_of (abstraction u) i).endings) refl told.endings kept).right
          (λ i. (frame_of (abstraction (world_state_by d u x)) i).endings) after
          (ap (λ (y : FrameView). y.endings) (get_or-set_same u.frame_views d (frame_by w x) nowhere lt))
          (λ i n. ap (λ (y : FrameView). y.endings) (get_or-set_other u.frame_views d i (frame_by w x) nowhere n));
      watched =
          watched_step d u kept after begun (let a = told.threads in let b = told.pending_calls in let some = kept.proper.few in omega (arith, a, b, some))
          told.watched;
      tidy = tidy_after d u begun.pending_call lt told.tidy;
    }

pub told_by : (d : ℕ) (u v : WorldState) (r : Stepped) (m e : ℕ) → TableInvariant u.ghost_state → TableInvariant v.ghost_state → HasBegun d u
    → d < length u.frame_views
    → TotalsAreTold u m e
    → Steps d u r v → TotalsAreTold v (m + step_makes (pending_call_of u d) r) (e + step_ends r)
told_by d u v r m e kept after begun lt told steps =
    let x = step_of d u in
    let k : TableInvariant (ghost_by u.ghost_state d x) = subst (λ (y : WorldState). TableInvariant y.ghost_state) steps.1 after in
    let same = answered_adds u.ghost_state d (pending_call_of u d) (frame_of (abstraction u) d) in
    let a : step_makes (pending_call_of u d) r ≡ step_makes (pending_call_of u d) (stepped u.ghost_state x) = ap (step_makes (pending_call_of u d)) steps.0 ∙
    same.0 in
    let b : step_ends r ≡ step_ends (stepped u.ghost_state x) = ap step_ends steps.0 ∙ same.1 in
    subst (λ (y : WorldState). TotalsAreTold y (m + step_makes (pending_call_of u d) r) (e + step_ends r)) (sym steps.1)
    (subst (λ (j : ℕ). TotalsAreTold (world_state_by d u x) (m + j) (e + step_ends r)) (sym a)
    (subst (λ (j : ℕ). TotalsAreTold (world_state_by d u x) (m + step_makes (pending_call_of u d) (stepped u.ghost_state x)) (e + j)) (sym b)
    (told_step d u m e kept k begun lt told)))
