-- Steps leave the table as large as it was.
use Rattle.std.proofs.Common.{◌≡◌, ℕ, ◌-◌, List, [], ◌∷◌, Some, None, Option, refl, ap, ◌∙◌}
use Rattle.step_core.proofs.Prelude.{AtomicStep, ghost_after, ghost_by, GhostState, GoesTo, IsRun}
use Rattle.step_core.proofs.Prelude.{Step, step_of, Stepped, Steps, StepsBy, TraceStep, WorldState}
use Rattle.step_core.specs.Worlds.{IsAsLarge}

extent_after : (v : GhostState) (d : ℕ) (x : Option AtomicStep) → (ghost_after v d x).extent ≡ v.extent
extent_after v d None = refl
extent_after v d (Some x) = refl

extent_by : (v : GhostState) (d : ℕ) (x : Option Step) → (ghost_by v d x).extent ≡ v.extent
extent_by v d None = refl
extent_by v d (Some x) = extent_after v d x.atomic_step

pub extent_step : (d : ℕ) (u m : WorldState) (r : Stepped) → Steps d u r m → IsAsLarge u m
extent_step d u m r step = ap (λ (v : WorldState). v.ghost_state.extent) step.1 ∙ extent_by u.ghost_state d (step_of d u)

extent_steps : (d : ℕ) (u u' : WorldState) (rs : List Stepped) → StepsBy d u rs u' → IsAsLarge u u'
extent_steps d u u' [] by = ap (λ (v : WorldState). v.ghost_state.extent) by
extent_steps d u u' (r ∷ rs) by = extent_steps d by.0 u' rs by.2 ∙ extent_step d u by.0 r by.1.steps

pub extent_goes : (d : ℕ) (u u' : WorldState) → GoesTo d u u' → IsAsLarge u u'
extent_goes d u u' goes = extent_steps d u u' goes.0 goes.1

pub extent_run : (u u' : WorldState) (steps : List TraceStep) → IsRun u steps u' → IsAsLarge u u'
extent_run u u' [] run = ap (λ (v : WorldState). v.ghost_state.extent) run
extent_run u u' (x ∷ xs) run = extent_run run.0 u' xs run.2 ∙ extent_step (x.actor - 1) u run.0 x.stepped run.1.steps
